-- Which set of column letters a zone or a UPS band uses: document 01, "Letters". Assumes nothing.
use Rattle.std.specs.Prelude.{cond, ℕ, eqb, ℤ, pos, ◌-ℤ◌}
use Prim.Native.Char.{code}
use Rattle.whole.specs.Floor.{floor_mod}
use Rattle.letters.specs.Letters.{LetterSet, NoLetters, UtmColumns0, UtmColumns1, UtmColumns2, UpsColumnsA, UpsColumnsB, UpsColumnsY, UpsColumnsZ}
use Rattle.bands.specs.Bands.{grid_of, by_grid}

-- "UTM columns by (zone-1) mod 3".
unfoldable pub utm_columns : ℕ → LetterSet
utm_columns m = cond (eqb m 0) UtmColumns0 (cond (eqb m 1) UtmColumns1 UtmColumns2)

-- "UPS columns: A ..; B ..; Y ..; Z .."
unfoldable pub ups_columns : ℕ → LetterSet
ups_columns b =
    cond (eqb b (code "A")) UpsColumnsA
    (cond (eqb b (code "B")) UpsColumnsB (cond (eqb b (code "Y")) UpsColumnsY (cond (eqb b (code "Z")) UpsColumnsZ NoLetters)))

-- The columns of a UTM zone; no other number has any.
unfoldable pub utm_columns_of : ℤ → LetterSet
utm_columns_of zone = by_grid (grid_of zone) (utm_columns (floor_mod (zone -ℤ pos 1) 3)) NoLetters NoLetters

-- Those of a zone or, in zone 0, of a UPS band.
unfoldable pub columns_of : ℤ → ℕ → LetterSet
columns_of zone b = by_grid (grid_of zone) (utm_columns (floor_mod (zone -ℤ pos 1) 3)) (ups_columns b) NoLetters
