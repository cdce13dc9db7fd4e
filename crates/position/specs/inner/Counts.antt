-- A precision as a count of digits, and which counts of units are exact in f64. No public answer speaks of these. Assumes nothing.
use Rattle.std.specs.Prelude.{Bool, false, cond, ℕ, ltb, ℤ, pos, negsuc}
use Rattle.std.specs.Int.Signed.{lt_z}

-- "Precision p is digits per axis, 0 to 11; -1 means bare zone": p as a count, 12 where it is none.
unfoldable pub count_of : ℤ → ℕ
count_of (pos p) = cond (ltb 11 p) 12 p
count_of (negsuc n) = 12

-- A count from -2^53 to below 2^53 is a f64 exactly.
unfoldable pub exact : ℤ → Bool
exact u = cond (lt_z u (negsuc 9007199254740991)) false (lt_z u (pos 9007199254740992))
