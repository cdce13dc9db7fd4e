-- `row_letters::utm_place` meets its contract: a guess that is right of the set is confirmed.
-- Assumes nothing.
use mathlib.Core.Path.{◌∙◌}
use Rattle.row_letters.proofs.Guesses.{utm_rows}
use Rattle.row_letters.proofs.utm_place.Goals as goal

pub returns : goal.returns
returns c = (rw (c.behind.ensures, c.skipped.ensures) at c.confirmed.ensures) ∙ utm_rows c.args.letter
