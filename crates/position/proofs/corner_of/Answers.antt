-- `position::corner_of` meets its contract, by what `half_of` ensures; the check finds the rest.
-- Assumes nothing.
use mathlib.Core.Path.{◌≡◌}
use mathlib.Core.Bool.{false}
use Prim.Native.Nat.{◌^◌, ◌<◌}
use native.Mathlib.Omega.{arith}
use lib.IntN.{pos}
use lib.Signed.{lt_z}
use mir.Syntax.{w64}
use mir.Facts.{to_z-of_z, to_z_pos}
use Rattle.std.proofs.lemmas.Int.{ints}
use Rattle.position.specs.Squares.{half_of, corner_of}
use Rattle.position.proofs.Squares.{half_le}
use Rattle.position.proofs.corner_of.Goals as goal

pub returns-else-centre-half : goal.returns-else-centre-half
unfolding corner_of
returns-else-centre-half c =
    let h = half_le c.args.p in
    let e : c.half_of-half.result ≡ half_of c.args.p = simp (to_z-of_z c.ranges.p) at c.half_of-half.ensures in
    let w : half_of c.args.p < 2 ^ 63 = omega arith in
    let t : lt_z c.args.centre (pos (half_of c.args.p)) ≡ false = rw (to_z-of_z c.ranges.centre, e, to_z_pos w64 w) at c.if-centre-half.false in
    rw t (omega (arith, ints))
