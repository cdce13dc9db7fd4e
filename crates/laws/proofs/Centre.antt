-- Every square that is read is centred as document 01 says, once over p. Assumes nothing.
use mathlib.Core.Path.{◌≡◌, ap, ◌∙◌}
use mathlib.Core.List.{List}
use Prim.Native.Nat.{ℕ, ◌^◌, ◌≤◌, ◌<◌}
use lib.IntN.{ℤ, pos}
use Rattle.position.specs.declared.Position.{Position}
use Rattle.position.specs.Squares.{centre_of, centre, number_of}
use Rattle.position.proofs.Squares.{centre_at}
use Rattle.reader.specs.Read.{square_of, read_of}
use Rattle.reader.proofs.Stages.{squared}
use Rattle.runs.proofs.Halves.{halved_by}
use Rattle.laws.specs.Centre.{Centred}
use Rattle.std.specs.Prelude.{Ok}
use Rattle.reader.specs.declared.Reading.TheVariants.{Square}

axis : (p : ℤ) (n t d v : ℕ) → p ≡ pos n → n ≤ 11 → d < 10 ^ n → d ≡ v → pos (centre_of p t d) ≡ pos (centre n (number_of n t v))
axis p n t d v e h g f = rw (e, ← f) (ap pos (centre_at n t d h g))

pub centred : (s : List ℕ) (q : Position) → read_of s ≡ Ok (Square q) → Centred s q
unfolding square_of
centred s q e =
    let a = squared s q e in
    let d = halved_by _ _ a.is_digits in
    record {
      head = a.head;
      zone_and_band = a.is_head;
      tiles = a.tiles;
      block = a.is_block;
      p = d.n;
      precision = ap (λ (x : Position). x.p) a.is ∙ d.p;
      few = d.few;
      halves = d.all;
      easting = ap (λ (x : Position). x.easting) a.is ∙ axis _ d.n _ _ _ d.p d.few d.east_lt d.east;
      northing = ap (λ (x : Position). x.northing) a.is ∙ axis _ d.n _ _ _ d.p d.few d.north_lt d.north;
    }
