-- `lines::Run::list_lines` meets its contract: what is listed so far, with the answer of the rest, is the answer of the whole.
-- Assumes nothing.
use Prim.Native.Nat.{◌-◌}
use Rattle.lines.proofs.Listed.{Going}
use Rattle.lines.proofs.Run.list_lines.Given as goal

abbrev pub invariant-loop-k : goal.invariant-loop-k
invariant-loop-k l = Going l.buf l.initial.out l.fn.self l.out l.run

abbrev pub decreases-loop-k : goal.decreases-loop-k
decreases-loop-k l = l.run.end - l.run.from
