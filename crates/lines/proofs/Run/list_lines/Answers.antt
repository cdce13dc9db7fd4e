-- `lines::Run::list_lines` meets its contract: each line that has room is listed, and the answer of the rest is left to list.
-- Assumes nothing.
use mathlib.Core.Path.{◌≡◌, ◌∙◌}
use Prim.Native.Nat.{◌<◌, ◌≤◌, ◌^◌}
use native.Mathlib.Omega.{arith}
use lib.ListN.{length}
use Rattle.lines.specs.inner.Steps.{next_of}
use Rattle.lines.proofs.Steps.{next_is}
use Rattle.lines.proofs.Listed.{stopped, turned, no_more}
use Rattle.lines.proofs.Run.list_lines.Goals as goal

pub returns-in_default-put_line : goal.returns-in_default-put_line
returns-in_default-put_line c =
    let g = c.loop-k.invariant in
    let x = stopped c.args.buf.now c.loop-k.out c.loop-k.run c.in-Some.k g.inside (rw c.in-Some.is at c.memchr.ensures) c.put_line.new.out (rw c.in_default-put_line.is at c.put_line.ensures) in
    let n : length c.put_line.new.out ≡ length c.loop-k.out = c.put_line.auto.out in
    let u : c.loop-k.run.used ≤ length c.put_line.new.out = omega (arith, g.inside.2) in
    (x.0 ∙ g.run_is, x.1 ∙ g.out_is, (g.inside.0, g.inside.1, u))

pub loop-k-preserved : goal.loop-k-preserved
loop-k-preserved c =
    let g = c.loop-k.invariant in
    let b : c.loop-k.run.number < 2 ^ 64 = omega arith in
    let n : c.saturating_add.result ≡ next_of c.loop-k.run.number = c.saturating_add.ensures ∙ next_is c.loop-k.run.number b in
    rw n (turned c.args.buf.now c.loop-k.out c.loop-k.run c.in-Some.k g.inside (rw c.in-Some.is at c.memchr.ensures) c.in-Some-put_line.used c.put_line.new.out (rw c.in-Some-put_line.is at c.put_line.ensures) _ _ g)

pub returns : goal.returns
returns c =
    let g = c.loop-k.invariant in
    let x = no_more c.args.buf.now c.loop-k.out c.loop-k.run (rw c.in_default.is at c.memchr.ensures) in
    (x.0 ∙ g.run_is, x.1 ∙ g.out_is, g.inside)
