-- `ranges::judged_of` meets its contract: the northings' ends, moved by a tile at most, fit; the check finds the rest.
-- Assumes nothing.
use mathlib.Core.Bool.{Bool, true, false}
use native.Mathlib.Omega.{arith}
use lib.IntN.{ℤ, pos}
use lib.Signed.{◌≤ℤ◌}
use mir.Syntax.{w64}
use mir.Val.{SFits}
use mir.Facts.{to_z-of_z}
use Rattle.std.proofs.lemmas.Int.{ints}
use Rattle.position.specs.Units.{tiles}
use Rattle.ranges.specs.Ranges.{northings, moved}
use Rattle.ranges.proofs.judged_of.Goals as goal

moved_fit : (m : ℤ) → (pos 0 ≤ℤ m) × (m ≤ℤ tiles (pos 1)) → (utm north : Bool)
    → SFits w64 (moved m (northings utm north)).low × SFits w64 (moved m (northings utm north)).high
moved_fit m h true true = (omega (arith, ints), omega (arith, ints))
moved_fit m h true false = (omega (arith, ints), omega (arith, ints))
moved_fit m h false true = (omega (arith, ints), omega (arith, ints))
moved_fit m h false false = (omega (arith, ints), omega (arith, ints))

pub is_out-requires-2 : goal.is_out-requires-2
is_out-requires-2 c =
    rw (to_z-of_z c.ranges.margin, c.northings_of.ensures) (moved_fit c.args.margin c.requires c.args.utm c.args.point.north)
