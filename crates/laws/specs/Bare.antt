-- What a bare zone that is read stands for: "A text that ends at the band is a bare zone", and its point is that of the
-- formulas in the reader's definitions. Assumes nothing.
use Rattle.std.specs.Prelude.{◌≡◌, List, ℕ, length, Ok}
use Rattle.position.specs.declared.Position.{Position}
use Rattle.head.specs.declared.Head.{Head}
use Rattle.head.specs.Head.{head_of}
use Rattle.block.specs.Bare.{bare_of}
use Rattle.laws.specs.Sound.{rest_of}

-- The text has a zone and a band, nothing after them, and the position is their point, of p = -1.
pub record Supplied (s : List ℕ) (q : Position) : Type 0 where
  pub head : Head
  pub zone_and_band : head_of s ≡ Ok head
  pub ends : length (rest_of s head) ≡ 0
  pub point : q ≡ bare_of head.zone head.band
