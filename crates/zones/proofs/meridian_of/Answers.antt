-- `zones::meridian_of` meets its contract, by what `floor_mod` ensures.
-- Assumes nothing.
use mathlib.Core.Path.{◌≡◌}
use lib.Dec.{lit<, lit≤}
use lib.IntN.{ℤ, pos, ◌+ℤ◌, ◌-ℤ◌}
use mir.Syntax.{w64}
use mir.Val.{SFits, to_z, of_z}
use mir.Facts.{to_z-of_z, to_z_pos}
use Rattle.whole.specs.Floor.{floor_mod}
use Rattle.whole.proofs.Signed.{back}
use Rattle.whole.proofs.Small.{fits, remainder}
use Rattle.zones.specs.Zones.{degrees, turned}
use Rattle.zones.proofs.Degrees.{sum_fits, turned_range, turned_fits}
use Rattle.zones.proofs.meridian_of.Goals as goal
use Rattle.zones.proofs.meridian_of.Goals.{After-degrees_of-d, After-floor_mod}

d_is : (c : After-degrees_of-d) → to_z w64 (of_z w64 c.degrees_of-d.result) ≡ degrees c.args.longitude
d_is c = back _ _ c.degrees_of-d.type_inv (rw (to_z-of_z c.ranges.longitude) at c.degrees_of-d.ensures)

rest : (c : After-floor_mod) → c.floor_mod.result ≡ floor_mod (degrees c.args.longitude +ℤ pos 180) 360
rest c =
    rw (d_is (goal.at.After-floor_mod c).After-degrees_of-d, to_z-of_z (sum_fits c.args.longitude c.ranges.longitude)) at c.floor_mod.ensures

small : (z : ℤ) → SFits w64 (pos (floor_mod z 360))
small z = fits (remainder z (lit< tt)) (lit≤ tt)

difference : (c : After-floor_mod) → to_z w64 c.floor_mod.result -ℤ pos 180 ≡ turned (degrees c.args.longitude)
unfolding turned
difference c = rw (rest c, to_z_pos w64 (small (degrees c.args.longitude +ℤ pos 180)).sfits)

turned_ok : (c : After-floor_mod) → SFits w64 (turned (degrees c.args.longitude))
turned_ok c = let d = degrees c.args.longitude in turned_fits (turned d) (turned_range d)

-- the degrees, as they are read back
degrees_are : (c : After-floor_mod) → to_z w64 (of_z w64 (to_z w64 c.floor_mod.result -ℤ pos 180)) ≡ turned (degrees c.args.longitude)
degrees_are c = rw (difference c) (to_z-of_z (turned_ok c))

pub overflow_add-d : goal.overflow_add-d
overflow_add-d c = rw (d_is c) (sum_fits c.args.longitude c.ranges.longitude)

pub overflow_cast-result : goal.overflow_cast-result
overflow_cast-result c = rw (rest c) (small (degrees c.args.longitude +ℤ pos 180))

pub overflow_sub-result : goal.overflow_sub-result
overflow_sub-result c = rw (difference c) (turned_ok c)

pub invariant_of-result : goal.invariant_of-result
invariant_of-result c = rw (degrees_are c) (record { in_range = turned_range (degrees c.args.longitude) })

pub returns : goal.returns
returns c = degrees_are (goal.at.returns c).After-floor_mod
