-- `trip::read_back` meets its contract, by what writing and reading ensure and by the law of reading back.
-- Assumes nothing.
use mathlib.Core.Path.{sym, ◌∙◌}
use Prim.Native.Nat.{◌≤◌}
use native.Mathlib.Omega.{arith}
use lib.Dec.{lit≤}
use lib.ListN.{length-take}
use Rattle.laws.proofs.Back.{reads_back}
use Rattle.laws.proofs.Length.{length_rule, refused_back}
use Rattle.trip.proofs.read_back.Goals as goal
use Rattle.trip.proofs.read_back.Goals.{In-Ok}

few : (c : In-Ok) → c.in-Ok.n ≤ 27
few c = (length_rule _ _ _ _ _ _ 27 _ (sym c.write.ensures.0 ∙ c.in-Ok.is)).1

pub slice_bounds-read-end : goal.slice_bounds-read-end
slice_bounds-read-end c =
    let k = few (goal.at.slice_bounds-read-end c).In-Ok in
    let l = c.write.auto.out in
    simp length-take (omega arith)

pub returns-in-Ok : goal.returns-in-Ok
returns-in-Ok c = rw c.write.ensures.1 at c.read.ensures ∙ reads_back _ _ _ _ _ _ _ _ (sym c.write.ensures.0 ∙ c.in-Ok.is)

pub returns-in-Err : goal.returns-in-Err
returns-in-Err c = sym (refused_back _ _ _ _ _ _ 27 _ (lit≤ tt) (sym c.write.ensures.0 ∙ c.in-Err.is))
