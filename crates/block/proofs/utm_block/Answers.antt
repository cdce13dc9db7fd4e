-- `block::utm_block` meets its contract, by what the band's place and resolution ensure; its row is one of -90..94.
-- Assumes nothing.
use mathlib.Core.Path.{◌≡◌, ap, sym, ◌∙◌}
use native.Mathlib.Omega.{arith}
use lib.Dec.{lit≤}
use Prim.Native.Nat.{ℕ}
use lib.IntN.{pos, negsuc}
use lib.Signed.{◌≤ℤ◌}
use Rattle.whole.proofs.Small.{fits, between, computed}
use mir.Syntax.{w64}
use mir.Val.{SFits, to_z, of_z}
use mir.Facts.{to_z-of_z, to_z_pos}
use Rattle.whole.proofs.Parts.{up, dn}
use Rattle.whole.proofs.Signed.{less_fits}
use Rattle.rows.specs.Letters.{shift_of}
use Rattle.rows.specs.Resolve.{resolve}
use Rattle.rows.proofs.Theorems.{answered, in_rows}
use Rattle.bands.specs.Bands.{band_index, band_number}
use Rattle.bands.proofs.Index.{index_is, index_le}
use Rattle.block.specs.Block.{utm_block}
use Rattle.block.proofs.NoBand.{no_block}
use Rattle.block.proofs.utm_block.Goals as goal
use Rattle.block.proofs.utm_block.Goals.{After-utm_row_at, In-Some, In-Some-utm_row_at}
use Rattle.std.specs.Prelude.{Some}

pub returns-in_default : goal.returns-in_default
returns-in_default c =
    let a = c.args in
    no_block _ a.band a.column a.letter a.easting (sym c.utm_place.ensures ∙ c.in_default.is)

-- the band's index is the place that was found
index : (c : In-Some) → band_index c.args.band ≡ c.in-Some.k
index c = index_is _ _ (sym c.utm_place.ensures ∙ c.in-Some.is)

number : (c : In-Some) → to_z w64 c.in-Some.k ≡ pos (band_index c.args.band)
number c =
    let b = c.args.band in
    let h = index_le b in
    rw (sym (index c)) (to_z_pos w64 {n = band_index b} (omega arith))

band_fits : (b : ℕ) → SFits w64 (band_number b)
unfolding up dn
band_fits b = let h = index_le b in less_fits (pos (band_index b)) 10 (record { sfits = omega arith }) (omega arith) (lit≤ tt)

resolved : (c : After-utm_row_at)
    → c.utm_row_at.result ≡ resolve (shift_of c.args.zone) (band_number c.args.band) c.args.column c.args.letter
resolved c =
    let shift = c.shift_of.ensures ∙ ap shift_of (to_z-of_z c.ranges.zone) in
    rw (number (goal.at.After-utm_row_at c).In-Some, to_z-of_z (band_fits c.args.band), shift) at c.utm_row_at.ensures

pub returns-in_default-utm_row_at : goal.returns-in_default-utm_row_at
unfolding utm_block
returns-in_default-utm_row_at c = let k = sym (resolved (goal.at.returns-in_default-utm_row_at c).After-utm_row_at) ∙ c.in_default-utm_row_at.is in rw k

-- the row is one of -90..94, as resolution has answered it
row_is : (c : In-Some-utm_row_at)
    → resolve (shift_of c.args.zone) (band_number c.args.band) c.args.column c.args.letter ≡ Some c.in-Some-utm_row_at.found
row_is c = sym (resolved (goal.at.In-Some-utm_row_at c).After-utm_row_at) ∙ c.in-Some-utm_row_at.is

limited : (c : In-Some-utm_row_at) → (negsuc 89 ≤ℤ c.in-Some-utm_row_at.found) × (c.in-Some-utm_row_at.found ≤ℤ pos 94)
limited c =
    let b = band_number c.args.band in
    let a = answered b c.args.column (shift_of c.args.zone) c.args.letter c.in-Some-utm_row_at.found (row_is c) in
    in_rows b c.args.column c.in-Some-utm_row_at.found a.0

row_back : (c : In-Some-utm_row_at) → to_z w64 (of_z w64 c.in-Some-utm_row_at.found) ≡ c.in-Some-utm_row_at.found
row_back c =
    to_z-of_z {w = w64} {z = c.in-Some-utm_row_at.found}
    (fits (between (negsuc 89) (pos 94) _ (computed 94 (negsuc 89) tt) (computed 94 (pos 94) tt) (limited c)) (lit≤ tt))

pub tile_of-northing-requires : goal.tile_of-northing-requires
tile_of-northing-requires c = rw (row_back c) (limited c)

pub returns : goal.returns
unfolding utm_block
returns c =
    let k = row_is (goal.at.returns c).In-Some-utm_row_at in
    let e = rw (row_back (goal.at.returns c).In-Some-utm_row_at) at c.tile_of-northing.ensures in
    rw (k, e)
