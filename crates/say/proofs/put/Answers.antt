-- `say::put` meets its contract: the text is copied to the part of the buffer from its place on. Assumes nothing.
use native.Mathlib.Omega.{arith}
use Rattle.say.proofs.Places.{no_room, copied}
use Rattle.say.proofs.put.Goals as goal
use Rattle.say.proofs.put.Goals.{else-at-out-via-then-at-out+else-text-out, else-at-out-via-else-at-out}

pub returns-then-text-out : goal.returns-then-text-out
returns-then-text-out c =
    copied c.args.at c.args.text.now c.args.out.now (omega (arith, c.if-at-out.true, c.if-text-out.true)) _ c.copy_from_slice.ensures.after

pub returns : goal.returns
returns c =
    no_room c.args.at c.args.text.now c.args.out.now
    (elim c.else-at-out.branch [
      | else-at-out-via-then-at-out+else-text-out w ↦ omega (arith, w.if-at-out.true, w.if-text-out.false)
      | else-at-out-via-else-at-out w ↦ omega (arith, w.if-at-out.false)
    ])
