-- The row that a row letter means, found by trying them all: document 01, "no allowed row has this row letter" and,
-- in document 02, "tries rows from -90 up to 94 and stops at the first allowed one with the right letter". Assumes nothing.
use Rattle.std.specs.Prelude.{Bool, ◌&&◌, cond, Option, Some, None, ℕ, zero, suc, eqb, ℤ, negsuc}
use Rattle.std.proofs.Math.IntN.{suc_ℤ}
use Rattle.rows.specs.Allowed.{allowed}
use Rattle.rows.specs.Letters.{letter_of}

-- The first of n rows from r up that passes a test.
unfoldable pub first_row : (ℤ → Bool) → ℤ → ℕ → Option ℤ
first_row passes r zero = None
first_row passes r (suc n) = let later = first_row passes (suc_ℤ r) n in cond (passes r) (Some r) later

-- An allowed row with the letter.
abbrev pub means : ℕ → ℤ → ℕ → ℕ → ℤ → Bool
means shift b c l r = eqb (letter_of shift r) l && allowed b c r

-- The 185 rows from -90 to 94.
unfoldable pub resolve : ℕ → ℤ → ℕ → ℕ → Option ℤ
resolve shift b c l = first_row (means shift b c l) (negsuc 89) 185
