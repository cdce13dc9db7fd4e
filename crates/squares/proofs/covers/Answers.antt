-- `squares::covers` meets its contract: what is read is near enough to be exact, and the check does the rest.
-- Assumes nothing.
use mathlib.Core.Path.{sym, ap, ◌∙◌}
use Rattle.std.specs.Prelude.{Ok}
use Rattle.position.proofs.Exact.{small_exact}
use Rattle.reader.proofs.Sizes.{square_near}
use Rattle.squares.proofs.covers.Goals as goal

pub invariant_of-is_covering : goal.invariant_of-is_covering
invariant_of-is_covering c =
    let near = square_near c.args.a.now c.in-Square-Square.x (sym c.read.ensures ∙ c.in_ok-outer.was ∙ ap Ok c.in-Square-Square.is-0) in
    record { east_exact = small_exact _ near.east; north_exact = small_exact _ near.north }

pub invariant_of-is_covering-in-Square-Square : goal.invariant_of-is_covering-in-Square-Square
invariant_of-is_covering-in-Square-Square c =
    let near = square_near c.args.b.now c.in-Square-Square.y (sym c.read-2.ensures ∙ c.in_ok-inner.was ∙ ap Ok c.in-Square-Square.is-1) in
    record { east_exact = small_exact _ near.east; north_exact = small_exact _ near.north }
