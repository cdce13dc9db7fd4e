-- `lines::finish` meets its contract: lines that are left come first; the last line by `last_none`, `last_full` and `last_fits`.
-- Assumes nothing.
use mathlib.Core.Path.{◌∙◌}
use Prim.Native.Nat.{◌<◌, ◌^◌}
use native.Mathlib.Omega.{arith}
use Rattle.lines.specs.inner.Steps.{finish_run, finish_out}
use Rattle.lines.proofs.Runs.{last_none, last_full, last_fits, finished}
use Rattle.lines.proofs.Steps.{next_is}
use Rattle.lines.proofs.finish.Goals as goal

pub returns-then-run : goal.returns-then-run
unfolding finish_run finish_out
returns-then-run c = (rw c.if-run.true, rw c.if-run.true)

pub returns-then-empty : goal.returns-then-empty
returns-then-empty c =
    let x = last_none c.args.buf.now c.args.out.now c.args.run c.if-run.false (rw c.within-at.ensures at c.if-empty.true) in
    rw c.within-at.ensures (finished c.args.buf.now c.args.out.now c.args.run c.if-run.false _ _ x)

pub returns-in-None : goal.returns-in-None
returns-in-None c =
    let q = rw (c.within-at.ensures, c.in-None.is) at c.put_line.ensures in
    let x = last_full c.args.buf.now c.args.out.now c.args.run (rw c.within-at.ensures at c.if-empty.false) c.put_line.new.out q in
    rw c.within-at.ensures (finished c.args.buf.now c.args.out.now c.args.run c.if-run.false _ _ x)

pub returns-in-Some : goal.returns-in-Some
returns-in-Some c =
    let q = rw (c.within-at.ensures, c.in-Some.is) at c.put_line.ensures in
    let b : c.args.run.number < 2 ^ 64 = omega arith in
    let n = rw c.within-at.ensures at c.saturating_add.ensures ∙ next_is c.args.run.number b in
    let x = last_fits c.args.buf.now c.args.out.now c.args.run (rw c.within-at.ensures at c.if-empty.false) c.in-Some.used c.put_line.new.out q c.if-run.false in
    rw (n, c.within-at.ensures) (finished c.args.buf.now c.args.out.now c.args.run c.if-run.false _ _ x)
