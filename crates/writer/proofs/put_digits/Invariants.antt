-- `writer::put_digits` meets its contract: the digits that are left, before those that stand, are all of them.
-- Assumes nothing.
use Rattle.std.proofs.Common.{◌≡◌, ◌+◌, ◌*◌, ◌++◌, length, drop}
use Rattle.runs.specs.Runs.{last_digits}
use Rattle.writer.proofs.put_digits.Given as goal

abbrev pub invariant-loop-k : goal.invariant-loop-k
invariant-loop-k l =
    last_digits (l.odd + 2 * l.k) l.rest ++ drop (l.odd + 2 * l.k) l.out ≡ last_digits (length l.initial.out) l.number
