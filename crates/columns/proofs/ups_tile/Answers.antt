-- `columns::ups_tile` meets its contract: a guess that is right of the band's stretch is confirmed, and counted from its first tile.
-- Assumes nothing.
use mathlib.Core.Path.{◌∙◌}
use Rattle.letters.proofs.Stretches.{column_guess, in_tiles}
use Rattle.columns.specs.inner.Stretches.{column_stretch}
use Rattle.columns.proofs.Guesses.{column_table, columns_are}
use Rattle.columns.proofs.ups_tile.Goals as goal

pub returns : goal.returns
returns c =
    let a = c.args in
    (rw (c.behind.ensures, c.skipped_in_columns.ensures, c.ups_columns-s.ensures) at c.tile_of.ensures) ∙ in_tiles column_table column_guess _ (column_stretch a.band) a.letter (columns_are a.band)
