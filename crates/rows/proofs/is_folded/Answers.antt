-- `rows::is_folded` meets its contract, by what the functions that it calls ensure.
-- Assumes nothing.
use mathlib.Core.Path.{◌≡◌, sym, ◌∙◌}
use mathlib.Core.Bool.{true}
use mir.Facts.{to_z-of_z}
use Rattle.rows.specs.Allowed.{same_sign}
use Rattle.rows.proofs.is_folded.Goals as goal

pub returns-then-same_sign : goal.returns-then-same_sign
returns-then-same_sign c =
    let b = to_z-of_z c.ranges.band in
    let r = to_z-of_z c.ranges.row in
    let k : same_sign c.args.band c.args.row ≡ true = sym (simp (b, r) at c.same_sign.ensures) ∙ c.if-same_sign.true in
    c.is_case.ensures ∙ simp (c.fold_of.ensures, c.fold_of-then-same_sign.ensures, c.fold_column.ensures, b, r, k)
