-- `composer::compose` meets its contract: the point that is handed on is from tile 1 and has at most 11 digits, and the check does the rest.
-- Assumes nothing.
use mathlib.Core.Path.{◌≡◌, sym, ◌∙◌}
use lib.IntN.{pos, negsuc}
use mir.Syntax.{w64}
use mir.Val.{to_z, of_z}
use borrow.Author.Rules.{rules}
use Rattle.whole.proofs.Ranges.{in_range_lem}
use Rattle.ranges.proofs.Reach.{east_least}
use Rattle.composer.proofs.compose.Goals as goal
use Rattle.composer.proofs.compose.Goals.{Else-is_outside-2}

pub invariant_of-compose_at : goal.invariant_of-compose_at
invariant_of-compose_at c =
    let h = in_range_lem (negsuc 0) (pos 11) _ (sym c.is_outside-2.ensures ∙ c.if-is_outside-2.false) in
    let l = east_least _ _ _ _ c.in_ok-moved.moved (sym c.mgrs_check_coords.ensures ∙ c.in_ok-moved.was) in
    let e : to_z w64 (of_z w64 c.in_ok-moved.moved.easting) ≡ c.in_ok-moved.moved.easting = search rules in
    record { from_tile_1 = rw (c.fold_of-easting.ensures, e) l; at_most_11 = h.1 }
