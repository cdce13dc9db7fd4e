-- `listing::Line::put_short` meets its contract: one digit, two digits, or eight, of which the zeros in front are let go.
-- Assumes nothing.
use Rattle.std.proofs.Common.{◌-◌, length, drop, ap, ◌∙◌, sym, arith, length-drop, length-append}
use lib.Seq.{drop-drop}
use Rattle.runs.specs.Runs.{last_digits}
use Rattle.runs.proofs.Decimals.{digits_length}
use Rattle.listing.proofs.Numerals.{few, short_is}
use Rattle.listing.proofs.Line.put_short.Goals as goal

pub overflow_sub-self : goal.overflow_sub-self
overflow_sub-self c = few c.args.n c.ilog10.result c.requires.0 c.ilog10.ensures.power_le

pub invariant_of-self : goal.invariant_of-self
invariant_of-self c =
    let n = ap length (c.self.view_is ∙ c.put_eight.ensures) in
    omega (arith, length-drop c.self.inside.at c.self.inside.bytes, length-append (last_digits 8 c.args.n) c.args.self.now, digits_length 8 c.args.n)

pub returns-else-n-lt100 : goal.returns-else-n-lt100
returns-else-n-lt100 c =
    sym (drop-drop (7 - c.ilog10.result) c.self.inside.at c.self.inside.bytes)
    ∙ ap (drop (7 - c.ilog10.result)) (c.self.view_is ∙ c.put_eight.ensures)
    ∙ short_is c.args.n c.ilog10.result c.args.self.now c.requires.0 c.ilog10.ensures.power_le c.ilog10.ensures.next_power_gt
