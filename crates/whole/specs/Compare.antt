-- A signed number against a natural one, against another, and against a range. Assumes nothing.
use Rattle.std.specs.Prelude.{Bool, true, false, cond, ℕ, eqb, ℤ, pos, negsuc}
use Rattle.std.specs.Int.Signed.{lt_z}

abbrev pub is_number : ℤ → ℕ → Bool
is_number (pos a) n = eqb a n
is_number (negsuc a) n = false

-- Two signed numbers.
abbrev pub same : ℤ → ℤ → Bool
same (pos a) (pos b) = eqb a b
same (pos a) (negsuc b) = false
same (negsuc a) (pos b) = false
same (negsuc a) (negsuc b) = eqb a b

-- "not low..high": both ends are in.
unfoldable pub outside : ℤ → ℤ → ℤ → Bool
outside low high z = cond (lt_z z low) true (lt_z high z)
