-- Row letters over every shift, 0 in odd zones and 5 in even ones: "the letter of signed row r is at r mod 20 (never negative)
-- in odd zones, (r+5) mod 20 in even ones"; "only one such row exists". Assumes nothing.
use Rattle.std.specs.Prelude.{◌≡◌, true, ℕ, ℤ, Some}
use Rattle.rows.specs.Allowed.{allowed}
use Rattle.rows.specs.Letters.{letter_of}
use Rattle.rows.specs.Resolve.{resolve}

-- At a shift, for a band and a column: the letter that is written of an allowed row is read as that row, and the row that a
-- letter is read as is allowed and written by that letter.
pub record Letters (shift : ℕ) (b : ℤ) (c : ℕ) : Type 0 where
  pub written_read : (r : ℤ) → allowed b c r ≡ true → resolve shift b c (letter_of shift r) ≡ Some r
  pub read_written : (l : ℕ) (x : ℤ) → resolve shift b c l ≡ Some x → (allowed b c x ≡ true) × (letter_of shift x ≡ l)
