-- `numbers::write` meets its contract, by what `writer::write` ensures.
-- Assumes nothing.
use mathlib.Core.Path.{◌≡◌, sym, ◌∙◌}
use lib.ListN.{length}
use mir.Syntax.{w64}
use mir.Facts.{to_z-of_z, to_z_pos}
use Rattle.writer.specs.Write.{write_of, write_leaves}
use Rattle.refusals.proofs.Room.{write_room, length_fits}
use Rattle.numbers.proofs.write.Goals as goal
use Rattle.numbers.proofs.write.Goals.{After-write}

answer : (c : After-write) → (c.write.result ≡ write_of c.args.zone c.args.north c.args.band c.args.p c.args.easting c.args.northing (length c.args.out.now))
    × (c.write.new.out ≡ write_leaves c.args.zone c.args.north c.args.band c.args.p c.args.easting c.args.northing c.args.out.now)
answer c =
    rw (to_z-of_z c.ranges.zone, to_z-of_z c.ranges.p, to_z-of_z c.ranges.easting, to_z-of_z c.ranges.northing) at c.write.ensures

pub overflow_cast-result : goal.overflow_cast-result
overflow_cast-result c =
    length_fits _ _ c.well_formed.1.1.1.1.1.1.0.1 (write_room _ _ _ _ _ _ _ _ (sym (answer (goal.at.overflow_cast-result c).After-write).0 ∙ c.in-Ok.is))

pub returns-in-Ok : goal.returns-in-Ok
returns-in-Ok c =
    let a = answer (goal.at.returns-in-Ok c).After-write in
    rw (sym a.0 ∙ c.in-Ok.is) (to_z_pos w64 (overflow_cast-result c).sfits, a.1)
