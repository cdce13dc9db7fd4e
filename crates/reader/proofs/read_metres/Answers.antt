-- `reader::read_metres` meets its contract: what is read is near enough to be exact, and the check does the rest.
-- Assumes nothing.
use mathlib.Core.Path.{sym, ap, ◌∙◌}
use Rattle.std.specs.Prelude.{Ok}
use Rattle.position.proofs.Exact.{small_exact}
use Rattle.reader.proofs.Sizes.{square_near, bare_near}
use Rattle.reader.proofs.read_metres.Goals as goal

pub metres_at-requires : goal.metres_at-requires
metres_at-requires c = let n = square_near c.args.text.now c.in-Square.q (sym c.read.ensures ∙ c.in_ok-q.was ∙ ap Ok c.in-Square.is) in (small_exact _ n.east, small_exact _ n.north)

pub metres_at-requires-in-Bare : goal.metres_at-requires-in-Bare
metres_at-requires-in-Bare c = let n = bare_near c.args.text.now c.in-Bare.q (sym c.read.ensures ∙ c.in_ok-q.was ∙ ap Ok c.in-Bare.is) in (small_exact _ n.east, small_exact _ n.north)
