-- How the program reaches the row without trying them all: what the proofs name. Assumes nothing.
use Prim.Native.Nat.{ℕ, ◌+◌, ◌-◌, ◌%◌}
use lib.IntN.{ℤ, pos, ◌-ℤ◌}
use Rattle.rows.specs.Limits.{limits_of}
use Rattle.rows.specs.inner.Direct.{candidate_from}

-- The ends of a band's limits.
abbrev pub lowest : ℤ → ℤ
lowest b = (limits_of b).low

abbrev pub highest : ℤ → ℤ
highest b = (limits_of b).high

-- Every allowed row lies among the twenty from one below the lowest.
abbrev pub base : ℤ → ℤ
base b = lowest b -ℤ pos 1

unfoldable pub candidate : ℤ → ℕ → ℤ
candidate b l = candidate_from (lowest b) l

-- A letter's place at a shift, as an odd zone counts it.
unfoldable pub unshifted : ℕ → ℕ → ℕ
unshifted shift l = (l + 20 - shift % 20) % 20
