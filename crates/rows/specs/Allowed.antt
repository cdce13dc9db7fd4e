-- Which rows a band and a column allow: document 01, "Allowed UTM rows". Assumes nothing.
use Rattle.std.specs.Prelude.{Bool, true, false, ◌&&◌, ◌||◌, cond, ℕ, ◌-◌, eqb, leb, ℤ, pos, negsuc}
use Rattle.std.specs.Int.Signed.{le_z}
use Rattle.whole.specs.Floor.{fold}
use Rattle.rows.specs.declared.Limits.{Limits}
use Rattle.rows.specs.Limits.{limits_of}

-- Within the limits, both ends in.
abbrev pub between : Limits → ℤ → Bool
between l r = le_z l.low r && le_z r l.high

abbrev pub within : ℤ → ℤ → Bool
within b r = between (limits_of b) r

-- "only where band and row are both negative or neither is"
abbrev pub same_sign : ℤ → ℤ → Bool
same_sign (pos a) (pos b) = true
same_sign (pos a) (negsuc b) = false
same_sign (negsuc a) (pos b) = false
same_sign (negsuc a) (negsuc b) = true

-- "Fold .. a column index c above 3 to 7-c."
abbrev pub fold_column : ℕ → ℕ
fold_column c = cond (leb c 3) c (7 - c)

-- "Then (row, band, column): (70, 8, at least 2), (71, 7, at most 2), (79, 9, at least 1), (80, 8, at most 1)."
abbrev pub folded_case : ℕ → ℕ → ℕ → Bool
folded_case r b c =
    (eqb r 70 && eqb b 8 && leb 2 c)
    || (eqb r 71 && eqb b 7 && leb c 2)
    || (eqb r 79 && eqb b 9 && leb 1 c)
    || (eqb r 80 && eqb b 8 && leb c 1)

-- "Outside the limits four folded cases are allowed": of band, column and row.
abbrev pub folded : ℤ → ℕ → ℤ → Bool
folded b c r = same_sign b r && folded_case (fold r) (fold b) (fold_column c)

-- A row that a band and a column index allow; columns are 0..7.
unfoldable pub allowed : ℤ → ℕ → ℤ → Bool
allowed b c r = leb c 7 && (within b r || folded b c r)
