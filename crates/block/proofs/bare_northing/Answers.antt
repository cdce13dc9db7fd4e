-- `block::bare_northing` meets its contract, by what the tile and the hundred of the south ensure; the numbers are small.
-- Assumes nothing.
use mathlib.Core.Path.{◌≡◌}
use mathlib.Core.Bool.{cond}
use Prim.Native.Nat.{ℕ, ◌<◌}
use native.Mathlib.Omega.{arith}
use lib.Dec.{lit≤}
use lib.IntN.{ℤ, pos, ◌+ℤ◌}
use mir.Syntax.{w64}
use mir.Val.{SFits, to_z, of_z}
use mir.Facts.{to_z-of_z}
use Rattle.whole.proofs.Signed.{back}
use Rattle.whole.proofs.Small.{fits, product}
use Rattle.position.specs.Units.{tiles}
use Rattle.letters.specs.Letters.{north_band}
use Rattle.bands.specs.Bands.{band_index}
use Rattle.bands.proofs.Index.{index_le}
use Rattle.block.specs.Bare.{bare_tile, bare_northing}
use Rattle.block.proofs.Bounds.{sided_small, by_side}
use Rattle.block.proofs.bare_northing.Goals as goal
use Rattle.block.proofs.bare_northing.Goals.{After-bare_tile, After-tiles_more}

-- the tile, the hundred of the south put to it
abbrev sided : ℕ → ℤ
sided band = bare_tile (band_index band) +ℤ cond (north_band band) (pos 0) (pos 100)

index_lt : (b : ℕ) → band_index b < 24
index_lt b = omega (arith, index_le b)

sided_fits : (band : ℕ) → SFits w64 (sided band)
sided_fits band = fits (sided_small (band_index band) (index_lt band) (north_band band)) (lit≤ tt)

units_fit : (band : ℕ) → SFits w64 (tiles (sided band))
units_fit band = fits (product (sided band) 200000000000 (sided_small (band_index band) (index_lt band) (north_band band))) (lit≤ tt)

tile : (c : After-bare_tile) → to_z w64 (of_z w64 c.bare_tile.result) ≡ bare_tile (band_index c.args.band)
tile c = back _ _ c.bare_tile.type_inv (rw c.band_index.ensures at c.bare_tile.ensures)

more : (c : After-tiles_more) → to_z w64 (of_z w64 c.tiles_more.result) ≡ cond (north_band c.args.band) (pos 0) (pos 100)
more c = back _ _ c.tiles_more.type_inv c.tiles_more.ensures

pub returns-then-zone-lt1 : goal.returns-then-zone-lt1
unfolding bare_northing
returns-then-zone-lt1 c = let k = rw (to_z-of_z c.ranges.zone) at c.if-zone-lt1.true in rw k

pub bare_tile-requires : goal.bare_tile-requires
bare_tile-requires c = rw c.band_index.ensures (index_lt _)

pub overflow_add-result : goal.overflow_add-result
overflow_add-result c = rw (tile (goal.at.overflow_add-result c).After-bare_tile, more c) (sided_fits c.args.band)

pub overflow_mul-result-2 : goal.overflow_mul-result-2
overflow_mul-result-2 c =
    let b = c.args.band in
    rw (tile (goal.at.overflow_mul-result-2 c).After-bare_tile, more c, to_z-of_z (sided_fits b)) (units_fit b)

pub returns : goal.returns
unfolding bare_northing
returns c =
    let b = c.args.band in
    let k = rw (to_z-of_z c.ranges.zone) at c.if-zone-lt1.false in
    rw (tile (goal.at.returns c).After-bare_tile, more c, to_z-of_z (sided_fits b), to_z-of_z (units_fit b), k) (by_side (north_band b) (bare_tile (band_index b)))
