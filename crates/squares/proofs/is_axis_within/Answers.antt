-- `squares::is_axis_within` meets its contract, by what corners and sides ensure.
-- Assumes nothing.
use mathlib.Core.Bool.{true}
use lib.Signed.{le_z}
use mathlib.Core.Path.{◌≡◌}
use native.Mathlib.Omega.{arith}
use lib.IntN.{pos, ◌+ℤ◌}
use mir.Syntax.{w64}
use mir.Val.{to_z, of_z}
use mir.Facts.{to_z-of_z, to_z_pos}
use Rattle.whole.proofs.Signed.{back}
use Rattle.position.specs.Squares.{side_length, corner_of}
use Rattle.squares.specs.Covers.{axis_within}
use Rattle.squares.proofs.Sizes.{side_le, edge_fits}
use Rattle.squares.proofs.is_axis_within.Goals as goal
use Rattle.squares.proofs.is_axis_within.Goals.{After-corner_of-inner, After-corner_of-outer, After-side_length, After-side_length-then-outer-inner}

-- the corners and the sides, as they are read back
outer : (c : After-corner_of-outer) → to_z w64 (of_z w64 c.corner_of-outer.result) ≡ corner_of c.args.p c.args.c
outer c =
    back _ _ c.corner_of-outer.type_inv (rw (to_z-of_z c.ranges.p, to_z-of_z c.ranges.c) at c.corner_of-outer.ensures)

inner : (c : After-corner_of-inner) → to_z w64 (of_z w64 c.corner_of-inner.result) ≡ corner_of c.args.r c.args.d
inner c =
    back _ _ c.corner_of-inner.type_inv (rw (to_z-of_z c.ranges.r, to_z-of_z c.ranges.d) at c.corner_of-inner.ensures)

inner_side : (c : After-side_length) → c.side_length.result ≡ side_length c.args.r
inner_side c = rw (to_z-of_z c.ranges.r) at c.side_length.ensures

outer_side : (c : After-side_length-then-outer-inner) → c.side_length-then-outer-inner.result ≡ side_length c.args.p
outer_side c = rw (to_z-of_z c.ranges.p) at c.side_length-then-outer-inner.ensures

-- the edges across from them
inner_edge : (c : After-side_length) → to_z w64 (of_z w64 c.corner_of-inner.result) +ℤ to_z w64 c.side_length.result ≡ corner_of c.args.r c.args.d +ℤ pos (side_length c.args.r)
inner_edge c =
    let h = side_le c.args.r in
    rw (inner (goal.at.After-side_length c).After-corner_of-inner, inner_side c, to_z_pos w64 {n = side_length c.args.r} (omega arith))

outer_edge : (c : After-side_length-then-outer-inner) → to_z w64 (of_z w64 c.corner_of-outer.result) +ℤ to_z w64 c.side_length-then-outer-inner.result ≡ corner_of c.args.p c.args.c +ℤ pos (side_length c.args.p)
outer_edge c =
    let h = side_le c.args.p in
    rw (outer (goal.at.After-side_length-then-outer-inner c).After-corner_of-outer, outer_side c, to_z_pos w64 {n = side_length c.args.p} (omega arith))

pub overflow_add-result : goal.overflow_add-result
overflow_add-result c = rw (inner_edge c) (edge_fits _ _ c.requires.1)

pub overflow_add-result-then-outer-inner : goal.overflow_add-result-then-outer-inner
overflow_add-result-then-outer-inner c = rw (outer_edge c) (edge_fits _ _ c.requires.0)

pub returns-then-outer-inner : goal.returns-then-outer-inner
unfolding axis_within
returns-then-outer-inner c =
    let k : le_z (corner_of c.args.p c.args.c) (corner_of c.args.r c.args.d) ≡ true = rw (outer (goal.at.returns-then-outer-inner c).After-corner_of-outer, inner (goal.at.returns-then-outer-inner c).After-corner_of-inner) at c.if-outer-inner.true in
    rw (inner_edge (goal.at.returns-then-outer-inner c).After-side_length, outer_edge c, to_z-of_z (edge_fits c.args.r c.args.d c.requires.1), to_z-of_z (edge_fits c.args.p c.args.c c.requires.0), k)
