-- Digits and the numbers that they spell: document 01, "Reading bytes". Assumes nothing.
use Rattle.std.specs.Prelude.{cond, List, [], ◌∷◌, ◌++◌, ℕ, zero, suc, ◌+◌, ◌-◌, ◌*◌, ◌/◌, ◌%◌, ltb, length, Option, Some, None}
use Prim.Native.Char.{code}
use Rattle.words.specs.Bytes.{is_digit}
use Rattle.runs.specs.declared.Lead.{Lead}

-- The number a, followed by digits.
unfoldable pub value_from : ℕ → List ℕ → ℕ
value_from a [] = a
value_from a (d ∷ ds) = value_from (a * 10 + (d - code "0")) ds

-- The number that digits spell, of any size.
abbrev pub value_of : List ℕ → ℕ
value_of ds = value_from 0 ds

-- The "leading digits".
unfoldable pub leading_digits : List ℕ → List ℕ
leading_digits [] = []
leading_digits (b ∷ bs) = cond (is_digit b) (b ∷ leading_digits bs) []

-- Their number and "their value", a whole number of any size.
unfoldable pub lead_of : List ℕ → Lead
lead_of s = record { count = length (leading_digits s); value = value_of (leading_digits s) }

-- The same, or that the value is more than 60: "not 1..60" is told by that alone.
unfoldable pub zone_lead : List ℕ → Option Lead
zone_lead s = cond (ltb 60 (lead_of s).value) None (Some (lead_of s))

-- The last n digits of a number, zeros in front where it has fewer.
unfoldable pub last_digits : ℕ → ℕ → List ℕ
last_digits zero x = []
last_digits (suc n) x = last_digits n (x / 10) ++ ((code "0" + x % 10) ∷ [])
