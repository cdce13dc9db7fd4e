-- `listing::Line::put_number` meets its contract: eight digits of what is left go over to what stands already.
-- Assumes nothing.
use Rattle.std.proofs.Common.{◌≡◌, ◌≤◌, ◌++◌, List, ℕ, length, ap, arith, length-append}
use Rattle.listing.specs.Numerals.{decimal}
use Rattle.listing.proofs.Fit.{numeral_le}
use Rattle.listing.proofs.Line.put_number.Goals as goal

-- what stands already is no longer than the whole
room : (rest n : ℕ) (s t : List ℕ) → decimal rest ++ s ≡ decimal n ++ t → length t ≤ 100 → length s ≤ 120
room rest n s t e h = omega (arith, simp length-append at (ap length e), numeral_le 20 n)

pub put_eight-requires : goal.put_eight-requires
put_eight-requires c = room _ _ _ _ c.loop-rest.invariant c.requires

pub put_short-requires : goal.put_short-requires
put_short-requires c = (c.loop-rest-test.false, room _ _ _ _ c.loop-rest.invariant c.requires)
