-- A letter that is no band of UTM has the index 20, a band that allows no row. Assumes nothing.
use mathlib.Core.Path.{◌≡◌, refl}
use mathlib.Core.Bool.{Bool, true, false, ◌&&◌}
use Prim.Native.Nat.{ℕ}
use lib.Dec.{eqb, leb}
use lib.IntN.{ℤ, pos, negsuc}
use lib.Signed.{le_z}
use Rattle.whole.proofs.Parts.{clash}
use Rattle.letters.specs.Letters.{UtmBands, place_of}
use Rattle.bands.specs.Bands.{band_index}
use Rattle.rows.specs.Limits.{limits_of}
use Rattle.rows.specs.Allowed.{allowed}
use Rattle.rows.specs.Letters.{shift_of}
use Rattle.rows.proofs.Theorems.{nothing}
use Rattle.block.specs.Block.{utm_block}
use Rattle.std.specs.Prelude.{None, Err}
use Rattle.rules.specs.declared.Refusal.TheVariants.{NoAllowedRow}

none : (t : Bool) → t && false ≡ false
none true = refl
none false = refl

no_row : (c : ℕ) (r : ℤ) → allowed (pos 10) c r ≡ true → ⊥
unfolding allowed limits_of
no_row c (pos n) a = let f : false ≡ true = rw (none (le_z (pos 0) (pos n)), none (eqb n 70), none (eqb n 71), none (eqb n 79), none (eqb n 80), none (leb c 7)) at a in clash (cc)
no_row c (negsuc n) a = let f : false ≡ true = rw (none (leb c 7)) at a in clash (cc)

pub no_block : (zone : ℤ) (band c l easting : ℕ) → place_of UtmBands band ≡ None → Err NoAllowedRow ≡ utm_block zone band c l easting
unfolding utm_block band_index
no_block zone band c l easting e = rw (e, nothing (pos 10) c (shift_of zone) l (λ r a h. no_row c r a))
