-- `row_letters::row_letter` meets its contract: the tables are the grid's sets.
-- Assumes nothing.
use mathlib.Core.Path.{◌≡◌, sym, ◌∙◌}
use lib.ListN.{get_or}
use mir.Facts.{to_z-of_z}
use Rattle.letters.specs.Letters.{letter_at}
use Rattle.bands.specs.Bands.{grid_of}
use Rattle.row_letters.specs.RowLetters.{rows_of}
use Rattle.row_letters.proofs.Guesses.{row_table, rows_are}
use Rattle.letters.proofs.Stretches.{letters_from}
use Rattle.row_letters.proofs.row_letter.Goals as goal
use Rattle.row_letters.proofs.row_letter.Goals.{After-grid_of}

grid : (c : After-grid_of) → c.grid_of.result ≡ grid_of c.args.zone
grid c = rw (to_z-of_z c.ranges.zone) at c.grid_of.ensures

pub returns-in-Ups : goal.returns-in-Ups
unfolding rows_of letter_at
returns-in-Ups c =
    let a = c.args in
    let t : c.letter_at-in-Ups.result ≡ get_or (letters_from row_table c.ups_rows-s.result) a.place 0 = c.letter_at-in-Ups.ensures in
    let e = rw c.ups_rows-s.ensures at t in
    rw (sym (grid (goal.at.returns-in-Ups c).After-grid_of) ∙ c.in-Ups.is) (rw (rows_are a.north).letters at e)
