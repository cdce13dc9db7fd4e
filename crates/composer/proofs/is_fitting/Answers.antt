-- `composer::is_fitting` meets its contract, by the two kinds of grid.
-- Assumes nothing.
use mathlib.Core.Path.{◌≡◌}
use mir.Syntax.{w64}
use mir.Val.{to_z, of_z}
use borrow.Author.Rules.{rules}
use Rattle.whole.proofs.Signed.{back}
use Rattle.bands.proofs.Index.{found_index}
use Rattle.composer.specs.Compose.{utm_fits, fits}
use Rattle.composer.proofs.is_fitting.Goals as goal

pub returns-else-q-lt1 : goal.returns-else-q-lt1
unfolding fits utm_fits
returns-else-q-lt1 c =
    let e : to_z w64 (of_z w64 c.args.q.zone) ≡ c.args.q.zone = search rules in
    let z = rw e at c.if-q-lt1.false in
    let r = rw (back _ _ c.row_of-row.type_inv c.row_of-row.ensures) at c.utm_fits.ensures in
    rw (z, found_index c.args.q.zone _ _ z c.requires, r, c.tile_of-column.ensures, c.tile_of.ensures)
