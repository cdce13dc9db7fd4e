-- `words::has` meets its contract: the first sixteen bytes and the last leave none between them.
-- Assumes nothing.
use native.Mathlib.Omega.{arith}
use Prim.Native.Nat.{◌-◌}
use lib.ListN.{length}
use Rattle.words.proofs.Laws.{rest}
use Rattle.words.proofs.Parts.{any_ends}
use Rattle.words.proofs.has.Goals as goal

pub returns-in-17-to-32 : goal.returns-in-17-to-32
returns-in-17-to-32 g c =
    let s = c.args.s.now in
    rw (c.in_two_eights-in-17-to-32.ensures, c.in_two_eights-in-17-to-32-2.ensures, rest s _) (any_ends g.K.Kind.is_of s 16 (length s - 16) (omega arith))
