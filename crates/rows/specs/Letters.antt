-- The letter of a signed row, as its place in ABCDEFGHJKLMNPQRSTUV: document 01, "Letters". Assumes nothing.
use Rattle.std.specs.Prelude.{cond, ℕ, eqb, ℤ, pos, ◌+ℤ◌}
use Rattle.whole.specs.Floor.{floor_mod}

-- "the letter of signed row r is at r mod 20 (never negative) in odd zones, (r+5) mod 20 in even ones": the shift is 0 or 5.
unfoldable pub shift_of : ℤ → ℕ
shift_of zone = cond (eqb (floor_mod zone 2) 0) 5 0

unfoldable pub letter_of : ℕ → ℤ → ℕ
letter_of shift r = floor_mod (r +ℤ pos shift) 20
