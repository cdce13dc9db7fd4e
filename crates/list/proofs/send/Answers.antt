-- `list::send` meets its contract: what waits stands in the output, and `written` is told how much of it the write took.
-- Assumes nothing.
use Rattle.courses.proofs.Programs.{written_waits}
use Rattle.list.proofs.send.Goals as goal

pub returns-clause-waits : goal.returns-clause-waits
returns-clause-waits g c = written_waits _ _ _ _ c.requires c.written.ensures
