-- `ranges::edge_of` meets its contract: a UTM northing in range is so when it is lowered; the check finds the rest.
-- Assumes nothing.
use borrow.Author.Rules.{rules}
use mir.Syntax.{w64}
use mir.Val.{SFits}
use mir.Facts.{to_z-of_z}
use Rattle.whole.proofs.Signed.{back}
use Rattle.ranges.proofs.Edges.{inside, lowered_wide}
use Rattle.ranges.proofs.edge_of.Goals as goal

pub side_of-requires : goal.side_of-requires
side_of-requires c =
    let p = c.args.point in
    let f : SFits w64 p.northing = search rules in
    let t = c.if-utm.true in
    let b = rw t at (inside c.args.utm p.north p.easting p.northing c.requires).1 in
    let e = back _ _ c.lowered_of-2.type_inv (simp (to_z-of_z f, c.northings_of.ensures, t) at c.lowered_of-2.ensures) in
    rw e (lowered_wide p.north p.northing b)
