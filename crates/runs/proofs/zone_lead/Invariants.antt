-- `runs::zone_lead` meets its contract: the digits passed, then the digits from there on, are those that lead.
-- Assumes nothing.
use mathlib.Core.Path.{◌≡◌}
use Prim.Native.Nat.{◌+◌, ◌≤◌}
use lib.ListN.{length, drop}
use Rattle.runs.specs.Runs.{value_from, value_of, leading_digits}
use Rattle.runs.proofs.zone_lead.Given as goal

abbrev pub invariant-loop-count : goal.invariant-loop-count
invariant-loop-count l =
    (l.value ≤ 60)
    × (length (leading_digits l.s) ≡ l.count + length (leading_digits (drop l.count l.s)))
    × (value_of (leading_digits l.s) ≡ value_from l.value (leading_digits (drop l.count l.s)))
