-- `ranges::mgrs_check_coords` meets its contract: a point in range is so on its own grid; the check finds the rest.
-- Assumes nothing.
use mathlib.Core.Path.{sym, ◌∙◌}
use mir.Facts.{to_z-of_z}
use Rattle.ranges.proofs.Edges.{own_grid}
use Rattle.ranges.proofs.mgrs_check_coords.Goals as goal

pub edge_of-requires : goal.edge_of-requires
edge_of-requires c =
    let p = c.args.point in
    let e = rw (to_z-of_z c.ranges.zone) at c.verdict_of.ensures in
    own_grid c.in_ok-utm.utm p.north p.easting p.northing c.args.zone (sym e ∙ c.in_ok-utm.was)
