-- `list::list_all` meets its contract: at the end of the input by `close`, after a read that failed by `answers`.
-- Assumes nothing.
use Rattle.courses.specs.inner.Programs.{unread}
use Rattle.courses.proofs.Programs.{start_reached, answers}
use Rattle.list.proofs.list_all.Goals as goal

pub read_all-requires-clause-reached : goal.read_all-requires-clause-reached
read_all-requires-clause-reached g c = start_reached _ _ _ _ c.requires.started

pub returns-in_ok-send_all-in-Err-Unread : goal.returns-in_ok-send_all-in-Err-Unread
returns-in_ok-send_all-in-Err-Unread g c =
    let a = c.in-Err-Unread.ensures in
    unread (answers _ _ _ _ a.reached (a.last (λ e. cc)) c.send_all.ensures.sent c.in_ok-send_all-in-Err-Unread.ensures.ok)
