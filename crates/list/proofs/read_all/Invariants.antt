-- `list::read_all`: at each turn the buffers and the run are those of a course. Assumes nothing.
use Rattle.std.proofs.Common.{◌≡◌, length}
use Rattle.courses.specs.inner.Programs.{Reached}
use Rattle.list.proofs.read_all.Given as goal

abbrev pub invariant-loop : goal.invariant-loop
invariant-loop g l = (length l.buf ≡ length l.initial.buf) × (length l.out ≡ length l.initial.out) × Reached l.buf l.out l.run
