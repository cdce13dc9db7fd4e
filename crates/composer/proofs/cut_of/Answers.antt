-- `composer::cut_of` meets its contract: each of the two divisions is the one by the square's side.
-- Assumes nothing.
use mathlib.Core.Path.{◌≡◌}
use Prim.Native.Nat.{◌+◌, ◌-◌, ◌%◌, ◌≤◌}
use native.Mathlib.Omega.{arith}
use mir.Facts.{to_z-of_z}
use Rattle.whole.specs.Floor.{fold}
use Rattle.position.specs.Squares.{side_length}
use Rattle.composer.specs.Compose.{cut_of}
use Rattle.composer.proofs.Sides.{Sided, sided, cut_by}
use Rattle.composer.proofs.cut_of.Goals as goal
use Rattle.composer.proofs.cut_of.Goals.{After-fold_of-digits, Else-digits-lt8}

digits : (c : After-fold_of-digits) → c.fold_of-digits.result ≡ fold c.args.p
digits c = rw (to_z-of_z c.ranges.p) at c.fold_of-digits.ensures

side : (c : After-fold_of-digits) → Sided (side_length c.args.p) (fold c.args.p)
side c = sided c.args.p c.requires

pub returns-then-digits-lt8 : goal.returns-then-digits-lt8
unfolding cut_of
returns-then-digits-lt8 c =
    let n = fold c.args.p in
    let d = side (goal.at.returns-then-digits-lt8 c).After-fold_of-digits in
    let e : 11 - n + n ≡ 11 = omega (arith, d.few) in
    rw (c.power_of_ten.ensures, digits (goal.at.returns-then-digits-lt8 c).After-fold_of-digits, d.is) (cut_by (c.args.x % 200000000000) n n 11 d.few e)

from_8 : (c : Else-digits-lt8) → 8 ≤ fold c.args.p
from_8 c = rw (digits (goal.at.Else-digits-lt8 c).After-fold_of-digits) at c.if-digits-lt8.false

pub returns : goal.returns
unfolding cut_of
returns c =
    let n = fold c.args.p in
    let d = side (goal.at.returns c).After-fold_of-digits in
    let e : 11 - n + (n - 8) ≡ 3 = omega (arith, d.few, from_8 (goal.at.returns c).Else-digits-lt8) in
    rw (c.power_of_ten-2.ensures, digits (goal.at.returns c).After-fold_of-digits, d.is) (cut_by (c.args.x % 200000000000) n (n - 8) 3 (omega (arith, d.few)) e)
