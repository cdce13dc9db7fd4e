-- `lines::step` meets its contract, by `left_more` where a line is left and by `left_open` where none is.
-- Assumes nothing.
use mathlib.Core.Path.{◌∙◌}
use Rattle.lines.proofs.Runs.{out_is, left_more, left_open}
use Rattle.lines.proofs.step.Goals as goal

pub returns-then-listed : goal.returns-then-listed
returns-then-listed c =
    let l = rw c.within-at.ensures at c.list_lines-listed.ensures.0 in
    let o = rw c.within-at.ensures at c.list_lines-listed.ensures.1 in
    let x = left_more c.args.buf.now c.args.out.now c.args.run c.list_lines-listed.result l c.if-listed.true in
    (x.0, x.1, o ∙ out_is c.args.buf.now c.args.out.now c.args.run)

pub returns : goal.returns
returns c =
    let l = rw c.within-at.ensures at c.list_lines-listed.ensures.0 in
    let o = rw c.within-at.ensures at c.list_lines-listed.ensures.1 in
    let i = c.list_lines-listed.ensures.2 in
    let x = left_open c.args.buf.now c.args.out.now c.args.run c.list_lines-listed.result l i.0 i.1 c.min-held.result c.min-held.ensures c.if-listed.false in
    (x.0, c.copy_within.ensures.after ∙ x.1, o ∙ out_is c.args.buf.now c.args.out.now c.args.run)
