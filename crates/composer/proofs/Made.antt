-- What is composed of a point that stays as it is. Assumes nothing.
use mathlib.Core.Path.{◌≡◌}
use mathlib.Core.Bool.{Bool, true, false}
use Prim.Native.Nat.{ℕ}
use lib.IntN.{ℤ, pos, negsuc}
use Rattle.whole.specs.Compare.{outside}
use Rattle.letters.specs.Letters.{place_of}
use Rattle.bands.specs.Bands.{bands_of}
use Rattle.ranges.specs.Edges.{point, mgrs_check}
use Rattle.position.specs.Units.{tile_at}
use Rattle.composer.specs.Compose.{fits, made_of, composed_at, composed}
use Rattle.std.specs.Prelude.{Some, Ok}

-- a point of a zone and p in range that stays, with a band that fits, makes a reference
pub made : (zone : ℤ) (north : Bool) (band : ℕ) (p : ℤ) (k e n : ℕ) → outside (pos 0) (pos 60) zone ≡ false → outside (negsuc 0) (pos 11) p ≡ false
    → mgrs_check zone north (pos e) (pos n) ≡ Ok (point north (pos e) (pos n)) → place_of (bands_of zone) band ≡ Some k
    → fits zone band north (tile_at e) (tile_at n) ≡ true → composed zone north band p (pos e) (pos n) ≡ Ok (made_of zone band north p e n)
unfolding composed composed_at
made zone north band p k e n z w m b f = rw (z, w, m, b, f)
