-- `list::fill` meets its contract: a read that brings nothing more leaves no line where none was left. Assumes nothing.
use Rattle.courses.proofs.Programs.{none_more}
use Rattle.list.proofs.Counts.{nothing}
use Rattle.list.proofs.fill.Goals as goal

pub returns-clause-last : goal.returns-clause-last
returns-clause-last g c = λ m. none_more _ _ _ _ c.received.ensures (nothing _ _ (c.after_read-more.ensures m) c.unwrap_or-n.ensures)
