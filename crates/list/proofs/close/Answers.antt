-- `list::close` meets its contract: with nothing left to list and the output free, `finish` leaves only writes to do.
-- Assumes nothing.
use mathlib.Core.Path.{◌∙◌}
use Rattle.std.proofs.lemmas.Result.{on_ok_weaker}
use Rattle.courses.proofs.Programs.{waits, sent_reached, sent_more, finish_waits, closes, stops}
use Rattle.list.proofs.close.Goals as goal

pub send_all-requires : goal.send_all-requires
send_all-requires g c = waits c.requires.reached

pub send_all-requires-2 : goal.send_all-requires-2
send_all-requires-2 g c =
    let f = c.send_all.ensures in
    finish_waits _ _ _ f.waits (sent_more _ _ f.sent ∙ c.requires.in_bounds.1) _ _ c.finish.ensures

pub returns : goal.returns
returns g c =
    let f = c.send_all.ensures in
    let s = c.send_all-2.ensures in
    stops _ _ _ _ s.err
    (on_ok_weaker c.send_all-2.result
    (closes _ _ _ _ _ _ (sent_reached _ _ _ _ c.requires.reached f.sent) (sent_more _ _ f.sent ∙ c.requires.in_bounds.1)
    c.requires.in_bounds.0 c.in_ok-send_all.ensures.ok c.finish.ensures s.sent)
    s.ok)
