-- Division of a signed number by a natural one, rounded down, and its remainder, which is never negative.
-- Document 01, "Slips that come easily": "Division toward zero on negative rows or degrees."
-- A number below zero, -(n + 1), is `negsuc n`. A divisor of 0 gives 0. Assumes nothing.
use Rattle.std.specs.Prelude.{cond, ℕ, ◌-◌, ◌/◌, ◌%◌, eqb, ℤ, pos, negsuc}

-- "Fold a negative band or row v to -v-1": of -(n + 1) that is n.
abbrev pub fold : ℤ → ℕ
fold (pos n) = n
fold (negsuc n) = n

-- The quotient rounded down: -(n + 1) over d is -(n / d + 1).
unfoldable pub floor_div : ℤ → ℕ → ℤ
floor_div (pos n) d = cond (eqb d 0) (pos 0) (pos (n / d))
floor_div (negsuc n) d = cond (eqb d 0) (pos 0) (negsuc (n / d))

-- What it leaves: 0 up to d - 1.
unfoldable pub floor_mod : ℤ → ℕ → ℕ
floor_mod (pos n) d = cond (eqb d 0) 0 (n % d)
floor_mod (negsuc n) d = cond (eqb d 0) 0 (d - 1 - n % d)
