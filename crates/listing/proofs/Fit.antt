-- 128 bytes hold every line. Assumes nothing.
use mathlib.Core.Bool.{Bool, true, false, cond}
use mathlib.Core.List.{List, [], ◌∷◌, ◌++◌, append_assoc}
use Prim.Native.Nat.{ℕ, zero, suc, ◌+◌, ◌/◌, ◌%◌, ◌≤◌}
use native.Mathlib.Omega.{arith}
use lib.ListN.{length, length-append}
use lib.IntN.{ℤ, pos, negsuc}
use lib.Dec.{ltb}
use Rattle.position.specs.declared.Position.{Position}
use Rattle.writer.proofs.Fit.{room, held, no_room, untouched}
use Rattle.listing.specs.Numerals.{digit, numeral, signed}
use Rattle.listing.specs.Listing.{zone_text, units_text, refusal_text, text_of, answer_of, line_of}
use Rattle.std.specs.Prelude.{Result, Ok, Err}
use Rattle.rules.specs.declared.Refusal.{Refusal}
use Rattle.rules.specs.Rules.{number_of}
use Rattle.reader.specs.declared.Reading.{Reading}
use Rattle.reader.specs.declared.Reading.TheVariants.{Square, Bare}

-- a numeral of k digits at most is no longer
pub numeral_le : (k n : ℕ) → length (numeral k n) ≤ k
unfolding numeral
numeral_le zero n = omega arith
numeral_le (suc k) n = by (ltb n 10) (numeral_le k (n / 10))
  where
    by : (z : Bool) → length (numeral k (n / 10)) ≤ k → length (cond z (digit n ∷ []) (numeral k (n / 10) ++ (digit (n % 10) ∷ []))) ≤ suc k
    by true h = omega arith
    by false h = simp length-append (omega arith)

pub signed_le : (z : ℤ) → length (signed z) ≤ 21
unfolding signed
signed_le (pos n) = omega (arith, numeral_le 20 n)
signed_le (negsuc n) = omega (arith, numeral_le 20 (n + 1))

pub units_le : (q : Position) → length (units_text q) ≤ 67
unfolding units_text
units_le q = simp length-append (omega (arith, signed_le q.p, signed_le q.easting, signed_le q.northing))

-- what the texts in front of a line need to know of their lengths, and of how they are joined
pub ruleset text_rules = (numeral_le, signed_le, units_le, length-append, append_assoc)

position_le : (n : ℕ) (q : Position) → length (zone_text n q ++ units_text q) ≤ 128
unfolding zone_text
position_le n q = simp length-append (omega (arith, numeral_le 20 n, signed_le q.zone, units_le q))

-- where a text has room in a buffer, and what the buffer then holds
pub ruleset copy_rules = (room, held, no_room, untouched)

refusal_le : (n k : ℕ) → length (refusal_text n k) ≤ 128
unfolding refusal_text
refusal_le n k = simp length-append (omega (arith, numeral_le 20 n, numeral_le 20 k))

text_le : (n : ℕ) (a : Result (Reading Position) Refusal) → length (text_of n a) ≤ 128
text_le n (Ok (Square q)) = position_le n q
text_le n (Ok (Bare q)) = position_le n q
text_le n (Err refusal) = refusal_le n (number_of refusal)

pub line_le : (read : List ℕ → Result (Reading Position) Refusal) (n : ℕ) (s : List ℕ) → length (line_of read n s) ≤ 128
unfolding line_of
line_le read n s = text_le n (answer_of read s)
