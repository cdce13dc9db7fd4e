-- `writer::put_digits` meets its contract: the digits that are left, before those that stand, are all of them.
-- Assumes nothing.
use Rattle.std.proofs.Common.{◌≡◌, ◌+◌, ◌-◌, ◌*◌, ◌%◌, length, arith, sym, ◌∙◌}
use Rattle.writer.proofs.Stores.{two_step}
use Rattle.writer.proofs.put_digits.Goals as goal

pub loop-k-preserved : goal.loop-k-preserved
loop-k-preserved c =
    let odd = length c.args.out.now % 2 in
    let k = odd + 2 * (c.loop-k.k - 1) in
    let e : odd + 2 * c.loop-k.k ≡ k + 2 = omega arith in
    sym (two_step k c.loop-k.rest c.loop-k.out (omega arith)) ∙ rw e at c.loop-k.invariant
