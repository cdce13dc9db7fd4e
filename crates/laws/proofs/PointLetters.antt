-- The column and the row letter that the writer gives a fitting point are read as the point's two tiles. Assumes nothing.
use mathlib.Core.Path.{◌≡◌, refl, sym, ap, ◌∙◌, subst}
use mathlib.Core.Bool.{Bool, true, false}
use Prim.Native.Nat.{ℕ, ◌+◌, ◌-◌, ◌≤◌, ◌<◌}
use native.Mathlib.Omega.{arith}
use borrow.Author.Tests.{le-ltb, leb-true, leb-false}
use lib.Dec.{T, leb}
use lib.IntN.{ℤ, pos, negsuc, ◌-ℤ◌}
use mir.Facts.{and_yes}
use Rattle.whole.proofs.Parts.{up, dn, T_true, eq_by, sub_parts}
use Rattle.letters.specs.Letters.{LetterSet, UtmRows, place_of, first_tile, north_band, east_band}
use Rattle.bands.specs.declared.Grid.TheVariants.{Utm}
use Rattle.bands.specs.Bands.{band_number, grid_of, bands_of}
use Rattle.columns.specs.Columns.{columns_of}
use Rattle.row_letters.specs.RowLetters.{rows_of}
use Rattle.letters.proofs.Laws.{size_of, letter_found}
use Rattle.rows.specs.Allowed.{allowed, same_sign}
use Rattle.rows.specs.Letters.{shift_of, letter_of}
use Rattle.rows.proofs.Period.{letter_lt}
use Rattle.rows.proofs.Theorems.{found}
use Rattle.block.specs.Block.{tile_of, tiles_of, utm_block, block_of}
use Rattle.laws.proofs.Inside.{row_side, utm_columns_lem, low_tile, high_tile, west_tile, east_tile, half_columns, hemisphere_rows}
use Rattle.composer.specs.Compose.{row_of_tile, letter_of_tile, utm_fits, agree, ups_fits, fits, row_letter}
use Rattle.std.specs.Prelude.{Some}

-- ---- a tile of a set has its letter there

-- from one number on and below another
record In (low high x : ℕ) : Type 0 where
  pub least : low ≤ x
  pub lt : x < high

-- a tile that a set has a letter for
abbrev TileOf : LetterSet → ℕ → Type 0
TileOf set t = In (first_tile set) (first_tile set + size_of set) t

-- its letter stands at the tile less the set's first, and is read as the tile again
tile_letter : (set : LetterSet) (t : ℕ) → TileOf set t → place_of set (letter_of_tile set t) ≡ Some (t - first_tile set)
unfolding letter_of_tile
tile_letter set t i =
    let h = i.least in
    let g = i.lt in
    rw (le-ltb t (first_tile set) h) (letter_found set (t - first_tile set) (omega arith))

tile_back : (set : LetterSet) (t : ℕ) → TileOf set t → first_tile set + (t - first_tile set) ≡ t
tile_back set t i = let h = i.least in omega arith

-- ---- UTM

-- two truths that agree are one
agreed : (a b : Bool) → T (agree a b) → b ≡ a
agreed true b t = T_true b t
agreed false true t = absurd t
agreed false false t = refl

-- a southern tile's row
southern : (tile : ℕ) → tile < 100 → pos tile -ℤ pos 100 ≡ negsuc (99 - tile)
unfolding up dn
southern tile h = let s = sub_parts (pos tile) (pos 100) in eq_by (pos tile -ℤ pos 100) (negsuc (99 - tile)) (omega arith)

-- the row of a tile is on its side of the equator
tile_side : (north : Bool) (tile : ℕ) → (north ≡ false → tile < 100) → same_sign (row_of_tile north tile) (pos 0) ≡ north
unfolding row_of_tile
tile_side true tile h = refl
tile_side false tile h = rw (southern tile (h refl))

-- the tile that a row is read as
row_tile : (north : Bool) (tile : ℕ) → (north ≡ false → tile < 100) → tile_of (row_of_tile north tile) ≡ tile
unfolding row_of_tile
row_tile true tile h = refl
row_tile false tile h = let g = h refl in rw (southern tile g) (omega arith)

-- what is read of the letters, and in which hemisphere
pub record Reads (zone : ℤ) (band : ℕ) (north : Bool) (column tile : ℕ) : Type 0 where
  pub side : north_band band ≡ north
  pub block : block_of zone band (letter_of_tile (columns_of zone band) column) (row_letter zone north tile) ≡ tiles_of column tile

-- the zones 1..60 are UTM's
pub utm_grid : (z : ℕ) → 1 ≤ z → z ≤ 60 → grid_of (pos z) ≡ Utm
unfolding grid_of
utm_grid z least most = rw (le-ltb z 0 (omega arith), le-ltb 60 z most, le-ltb z 1 least)

module _ (z band k : ℕ) (north : Bool) (column tile : ℕ) (least : 1 ≤ z) (most : z ≤ 60) where
  -- their rows
  utm_rows : (side : Bool) → rows_of (pos z) side ≡ UtmRows
  unfolding rows_of
  utm_rows side = rw (utm_grid z least most)

  module _ (place : place_of (bands_of (pos z)) band ≡ Some k) (fit : fits (pos z) band north column tile ≡ true)
      (from : 1 ≤ column) (to : column < 9) (south : north ≡ false → tile < 100) where
    -- the point's row is allowed for the band and the column
    is_allowed : allowed (band_number band) (column - 1) (row_of_tile north tile) ≡ true
    unfolding fits utm_fits
    is_allowed = rw (le-ltb z 1 least) at fit

    -- the band is of the point's hemisphere
    utm_side : north_band band ≡ north
    utm_side =
        row_side (pos z) band k (column - 1) (row_of_tile north tile) (utm_grid z least most) place is_allowed ∙ tile_side north tile south

    -- where the two letters stand
    utm_column : place_of (columns_of (pos z) band) (letter_of_tile (columns_of (pos z) band) column) ≡ Some (column - 1)
    utm_column =
        let c = utm_columns_lem (pos z) band (utm_grid z least most) in
        let f = c.0 in
        let s = c.1 in
        tile_letter (columns_of (pos z) band) column (record { least = omega arith; lt = omega arith }) ∙ ap (λ (x : ℕ). Some (column - x)) f

    utm_row : place_of (rows_of (pos z) (north_band band)) (row_letter (pos z) north tile) ≡ Some (letter_of (shift_of (pos z)) (row_of_tile north tile))
    unfolding row_letter
    utm_row =
        rw (le-ltb z 1 least, utm_rows (north_band band), utm_rows north)
        (letter_found UtmRows (letter_of (shift_of (pos z)) (row_of_tile north tile)) (letter_lt (shift_of (pos z)) (row_of_tile north tile)))

    -- so resolution answers the point's row, and the block its tiles
    pub utm_reads : Reads (pos z) band north column tile
    unfolding block_of utm_block
    utm_reads =
        let s = shift_of (pos z) in
        let r = row_of_tile north tile in
        let e : first_tile (columns_of (pos z) band) + (column - 1) ≡ column = omega (arith, (utm_columns_lem (pos z) band (utm_grid z least most)).0) in
        record {
          side = utm_side;
          block = rw (
            utm_column,
            utm_row,
            le-ltb z 1 least,
            found (band_number band) (column - 1) s (letter_of s r) r is_allowed refl,
            row_tile north tile south,
            e,
          );
        }

-- ---- UPS

-- a column of the hemisphere lies in its side's half
in_half : (north east : Bool) (column : ℕ) → leb 20 column ≡ east → low_tile north ≤ column → column < high_tile north → In (west_tile north east) (east_tile north east) column
in_half north true column e h g = record { least = leb-true 20 column e; lt = g }
in_half north false column e h g = record { least = h; lt = leb-false 20 column e }

module _ (band k : ℕ) (north : Bool) (column tile : ℕ) (place : place_of (bands_of (pos 0)) band ≡ Some k) (fit : fits (pos 0) band north column tile ≡ true)
    (from : low_tile north ≤ column) (to : column < high_tile north) (low : low_tile north ≤ tile) (high : tile < high_tile north) where
  -- "hemisphere and side agree"
  sides : (north ≡ north_band band) × (leb 20 column ≡ east_band band)
  unfolding fits ups_fits
  sides =
      let t = and_yes (agree (north_band band) north) (agree (east_band band) (leb 20 column)) (subst T (sym fit) tt) in
      (agreed (north_band band) north t.0, agreed (east_band band) (leb 20 column) t.1)

  -- the column is one of the band's, the row one of the hemisphere's
  column_in : TileOf (columns_of (pos 0) band) column
  unfolding columns_of grid_of bands_of
  column_in =
      let e = half_columns band k place in
      rw (ap (λ (v : ℕ × ℕ). v.1) e, ap (λ (v : ℕ × ℕ). v.0) e, ← sides.0) (in_half north (east_band band) column sides.1 from to)

  row_in : TileOf (rows_of (pos 0) north) tile
  unfolding rows_of grid_of
  row_in = rw ((hemisphere_rows north).1, (hemisphere_rows north).0) (record { least = low; lt = high })

  -- so the block answers the tiles
  ups_row : place_of (rows_of (pos 0) north) (row_letter (pos 0) north tile) ≡ Some (tile - first_tile (rows_of (pos 0) north))
  unfolding row_letter
  ups_row = tile_letter (rows_of (pos 0) north) tile row_in

  pub ups_reads : Reads (pos 0) band north column tile
  unfolding block_of
  ups_reads =
      record {
        side = sym sides.0;
        block = rw (
          tile_letter (columns_of (pos 0) band) column column_in,
          ← sides.0,
          ups_row,
          tile_back (columns_of (pos 0) band) column column_in,
          tile_back (rows_of (pos 0) north) tile row_in,
        );
      }
