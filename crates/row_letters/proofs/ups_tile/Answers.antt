-- `row_letters::ups_tile` meets its contract: a guess that is right of the hemisphere's stretch is confirmed, and counted from its first tile.
-- Assumes nothing.
use mathlib.Core.Path.{◌∙◌}
use Rattle.letters.proofs.Stretches.{guess, in_tiles}
use Rattle.row_letters.specs.inner.Halves.{row_stretch}
use Rattle.row_letters.proofs.Guesses.{row_table, rows_are}
use Rattle.row_letters.proofs.ups_tile.Goals as goal

pub returns : goal.returns
returns c =
    let a = c.args in
    (rw (c.behind.ensures, c.skipped.ensures, c.ups_rows-s.ensures) at c.tile_of.ensures) ∙ in_tiles row_table guess _ (row_stretch a.north) a.letter (rows_are a.north)
