-- How a letter is looked up in a set: its place is guessed by a sum, and the set is asked whether the letter stands there. That
-- this gives the places of `Letters` is proved by the crates with the tables, which alone ask so. Assumes nothing.
use Rattle.std.specs.Prelude.{cond, List, ℕ, ◌+◌, ◌-◌, ◌%◌, eqb, leb, ltb, length, get_or, Option, Some, None}
use Prim.Native.Char.{code}

-- A guessed place, if the letter stands there.
unfoldable pub confirm : List ℕ → ℕ → ℕ → Option ℕ
confirm set k b = cond (leb (length set) k) None (cond (eqb (get_or set k 0) b) (Some k) None)

-- How far behind A, the letters left out and those before a set's first.
unfoldable pub behind_of : ℕ → ℕ → ℕ → ℕ
behind_of b out first = (b + 703 - out - first) % 256

-- How many letters are left out before one: of all, of the UPS columns, of the UPS bands.
unfoldable pub skipped_of : ℕ → ℕ
skipped_of b = cond (ltb b (code "I")) 0 (cond (ltb b (code "O")) 1 2)

unfoldable pub skipped_low : ℕ → ℕ
skipped_low b = cond (ltb b (code "D")) 0 (cond (ltb b (code "I")) 2 3)

unfoldable pub skipped_high : ℕ → ℕ
skipped_high b = cond (ltb b (code "M")) 0 (cond (ltb b (code "V")) 3 5)

unfoldable pub skipped_in_columns : ℕ → ℕ
skipped_in_columns b = skipped_low b + skipped_high b

unfoldable pub skipped_in_bands : ℕ → ℕ
skipped_in_bands b = cond (ltb b (code "N")) 0 22
