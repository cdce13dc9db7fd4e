-- `list::list` meets its contract: a step, and writes where lines are left. Assumes nothing.
use Rattle.courses.proofs.Programs.{waits, stepped_reached, sent_reached}
use Rattle.list.proofs.list.Goals as goal

pub send_all-requires : goal.send_all-requires
send_all-requires g c = waits (stepped_reached _ _ _ _ _ _ c.requires c.step.ensures)

pub returns-then-run-clause-reached : goal.returns-then-run-clause-reached
returns-then-run-clause-reached g c = sent_reached _ _ _ _ (stepped_reached _ _ _ _ _ _ c.requires c.step.ensures) c.send_all.ensures.sent
