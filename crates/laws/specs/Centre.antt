-- What a square that is read stands for: "the centre on each axis is (2N+1) x 10^(11-p) units, N being the tile followed
-- by its digits." Assumes nothing.
use Rattle.std.specs.Prelude.{◌≡◌, List, ℕ, ◌+◌, ◌*◌, ◌-◌, ◌^◌, ◌≤◌, pos, length, take, drop, Ok}
use Rattle.runs.specs.Runs.{value_of}
use Rattle.position.specs.declared.Position.{Position}
use Rattle.head.specs.declared.Head.{Head}
use Rattle.block.specs.declared.Tiles.{Tiles}
use Rattle.head.specs.Head.{letter_in, head_of}
use Rattle.block.specs.Block.{block_of}
use Rattle.laws.specs.Sound.{rest_of}

-- N: p digits after a tile.
abbrev pub number : ℕ → ℕ → List ℕ → ℕ
number p tile digits = tile * 10 ^ p + value_of digits

-- The head, the block and the digits of the text make the position.
pub record Centred (s : List ℕ) (q : Position) : Type 0 where
  pub head : Head
  pub zone_and_band : head_of s ≡ Ok head
  pub tiles : Tiles
  pub block : block_of head.zone head.band (letter_in (rest_of s head) 0) (letter_in (rest_of s head) 1) ≡ Ok tiles
  pub p : ℕ
  pub precision : q.p ≡ pos p
  pub few : p ≤ 11
  pub halves : length (drop 2 (rest_of s head)) ≡ 2 * p
  pub easting : q.easting ≡ pos ((2 * number p tiles.easting (take p (drop 2 (rest_of s head))) + 1) * 10 ^ (11 - p))
  pub northing : q.northing ≡ pos ((2 * number p tiles.northing (drop p (drop 2 (rest_of s head))) + 1) * 10 ^ (11 - p))
