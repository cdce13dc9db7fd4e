-- `rows::pair_at` meets its contract: the table is the list of the limits, by computation.
-- Assumes nothing.
use mathlib.Core.Path.{refl}
use lib.IntN.{pos, ◌-ℤ◌}
use Rattle.whole.proofs.Table.{row}
use Rattle.rows.specs.Limits.{limits_of}
use Rattle.rows.specs.inner.Direct.{pair_of}
use Rattle.rows.proofs.pair_at.Goals as goal

pub returns : goal.returns
unfolding limits_of
returns c = row (λ k. pair_of (limits_of (pos k -ℤ pos 10))) _ 20 refl _ c.args.k c.requires
