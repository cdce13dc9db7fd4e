-- `columns::third_of` meets its contract: a UTM zone less one is a number that fits.
-- Assumes nothing.
use mathlib.Core.Path.{◌≡◌}
use lib.Dec.{lit<}
use lib.IntN.{pos, ◌-ℤ◌}
use mir.Facts.{to_z-of_z}
use Rattle.whole.specs.Floor.{floor_mod}
use Rattle.whole.proofs.Floor.{floor_mod_lt}
use Rattle.bands.proofs.ZoneNumber.{zone_less_fits}
use Rattle.columns.proofs.third_of.Goals as goal
use Rattle.columns.proofs.third_of.Goals.{After-floor_mod}

third : (c : After-floor_mod) → c.floor_mod.result ≡ floor_mod (c.args.zone -ℤ pos 1) 3
third c =
    rw (to_z-of_z c.ranges.zone, to_z-of_z (zone_less_fits c.args.zone c.ranges.zone c.requires)) at c.floor_mod.ensures

pub returns : goal.returns
returns c = (third c, rw (third c) (floor_mod_lt _ (lit< tt)))
