-- `columns::column_letter` meets its contract: the tables are the grid's sets.
-- Assumes nothing.
use mathlib.Core.Path.{◌≡◌, sym, ◌∙◌}
use borrow.Author.Rules.{rules}
use mathlib.Core.List.{[]}
use lib.ListN.{get_or}
use lib.IntN.{pos, ◌-ℤ◌}
use mir.Facts.{to_z-of_z}
use Rattle.whole.specs.Floor.{floor_mod}
use Rattle.letters.specs.Letters.{letter_at}
use Rattle.bands.specs.Bands.{grid_of}
use Rattle.columns.specs.Columns.{columns_of}
use Rattle.columns.proofs.Guesses.{utm_table, column_table, columns_are, utm_letters, in_table}
use Rattle.letters.proofs.Stretches.{letters_from}
use Rattle.columns.proofs.column_letter.Goals as goal
use Rattle.columns.proofs.column_letter.Goals.{After-grid_of, After-third_of-third}

grid : (c : After-grid_of) → c.grid_of.result ≡ grid_of c.args.zone
grid c = rw (to_z-of_z c.ranges.zone) at c.grid_of.ensures

pub third_of-third-requires : goal.third_of-third-requires
third_of-third-requires c = rw (to_z-of_z c.ranges.zone) (sym (grid (goal.at.third_of-third-requires c).After-grid_of) ∙ c.in-Utm.is)

third : (c : After-third_of-third) → c.third_of-third.result ≡ floor_mod (c.args.zone -ℤ pos 1) 3
third c = rw (to_z-of_z c.ranges.zone) at c.third_of-third.ensures.0

pub offset_bounds-sets-third : goal.offset_bounds-sets-third
offset_bounds-sets-third c = let h = c.third_of-third.ensures.1 in search rules

pub bounds-sets-third : goal.bounds-sets-third
bounds-sets-third c = c.third_of-third.ensures.1

pub slice_bounds-letter_at-count : goal.slice_bounds-letter_at-count
slice_bounds-letter_at-count c = rw c.ups_columns-s.ensures (columns_are c.args.band).low

pub slice_bounds-letter_at-start : goal.slice_bounds-letter_at-start
slice_bounds-letter_at-start c = let h = in_table c.args.band _ c.ups_columns-s.ensures in search rules

pub slice_bounds-letter_at-end-in-Ups : goal.slice_bounds-letter_at-end-in-Ups
slice_bounds-letter_at-end-in-Ups c = let h = in_table c.args.band _ c.ups_columns-s.ensures in search rules

pub returns-in-Utm : goal.returns-in-Utm
unfolding columns_of letter_at
returns-in-Utm c =
    let t : c.letter_at.result ≡ get_or (get_or utm_table c.third_of-third.result []) c.args.place 0 = c.letter_at.ensures in
    let e = rw (utm_letters _ c.third_of-third.ensures.1) at t in
    rw (sym (grid (goal.at.returns-in-Utm c).After-grid_of) ∙ c.in-Utm.is) (rw (third (goal.at.returns-in-Utm c).After-third_of-third) at e)

pub returns-in-Ups : goal.returns-in-Ups
unfolding columns_of letter_at
returns-in-Ups c =
    let a = c.args in
    let t : c.letter_at-in-Ups.result ≡ get_or (letters_from column_table c.ups_columns-s.result) a.place 0 = c.letter_at-in-Ups.ensures in
    let e = rw c.ups_columns-s.ensures at t in
    rw (sym (grid (goal.at.returns-in-Ups c).After-grid_of) ∙ c.in-Ups.is) (rw (columns_are a.band).letters at e)

pub returns-in-NoZone : goal.returns-in-NoZone
unfolding columns_of letter_at
returns-in-NoZone c = rw (sym (grid (goal.at.returns-in-NoZone c).After-grid_of) ∙ c.in-NoZone.is)
