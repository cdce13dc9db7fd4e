-- `rows::is_allowed_by` meets its contract, by what the functions that it calls ensure.
-- Assumes nothing.
use mathlib.Core.Path.{◌≡◌, sym, ◌∙◌}
use mathlib.Core.Bool.{true, false}
use borrow.Author.Tests.{le-leb}
use mir.Facts.{to_z-of_z}
use Rattle.rows.specs.Allowed.{between}
use Rattle.rows.proofs.is_allowed_by.Goals as goal

pub returns-then-is_between : goal.returns-then-is_between
returns-then-is_between c =
    let k : between c.args.l c.args.row ≡ true = sym (simp (to_z-of_z c.ranges.row) at c.is_between.ensures) ∙ c.if-is_between.true in
    c.if-is_between.true ∙ simp (le-leb _ _ c.if-column-le7.true, k)

pub returns-else-is_between : goal.returns-else-is_between
returns-else-is_between c =
    let r = to_z-of_z c.ranges.row in
    let k : between c.args.l c.args.row ≡ false = sym (simp r at c.is_between.ensures) ∙ c.if-is_between.false in
    (simp (to_z-of_z c.ranges.band, r) at c.is_folded.ensures) ∙ simp (le-leb _ _ c.if-column-le7.true, k)
