-- `words::in_two_eights` meets its contract: the first eight bytes and the last leave none between them.
-- Assumes nothing.
use native.Mathlib.Omega.{arith}
use Prim.Native.Nat.{◌-◌}
use lib.ListN.{length}
use Rattle.words.proofs.Parts.{any_ends}
use Rattle.words.proofs.in_two_eights.Goals as goal

pub returns : goal.returns
returns g c =
    let s = c.args.s.now in
    let first = rw c.unwrap-first.ensures at c.first_chunk.ensures.cases in
    let last = rw c.unwrap-last.ensures at c.last_chunk.ensures.cases in
    rw (c.in_eight.ensures, c.in_eight-2.ensures, first.same, last.1.same) (any_ends g.K.Kind.is_of s 8 (length s - 8) (omega arith))
