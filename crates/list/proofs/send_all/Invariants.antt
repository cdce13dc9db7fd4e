-- `list::send_all`: what was sent so far, all of it by writes that went well. Assumes nothing.
use Rattle.courses.specs.inner.Programs.{Sent, Waits}
use Rattle.list.proofs.send_all.Given as goal

abbrev pub invariant-loop : goal.invariant-loop
invariant-loop g l = Sent l.initial.run l.run × Waits l.out l.run
