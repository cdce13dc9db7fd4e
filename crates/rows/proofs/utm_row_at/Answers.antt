-- `rows::utm_row_at` meets its contract: less the shift, the letter's place is that of an odd zone, or one round further on.
-- Assumes nothing.
use mathlib.Core.Path.{sym, ◌∙◌}
use mir.Facts.{to_z-of_z}
use Rattle.rows.proofs.Direct.{unshifted}
use Rattle.rows.proofs.Theorems.{shifted}
use Rattle.rows.proofs.utm_row_at.Goals as goal

pub returns-then-letter-lt20 : goal.returns-then-letter-lt20
unfolding unshifted
returns-then-letter-lt20 c =
    (rw (to_z-of_z c.ranges.band) at c.row_from.ensures)
    ∙ sym (shifted c.args.band c.args.column c.args.shift c.args.letter c.if-letter-lt20.true)
