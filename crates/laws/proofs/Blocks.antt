-- Of a block that was read: points in its tiles stay as they are, its band fits, and its tiles have the letters that were
-- read. Assumes nothing.
use mathlib.Core.Path.{◌≡◌, refl, ap}
use mathlib.Core.Bool.{Bool, true, false, cond}
use Prim.Native.Nat.{ℕ, ◌+◌, ◌-◌}
use native.Mathlib.Omega.{arith}
use borrow.Author.Tests.{le-ltb}
use lib.IntN.{ℤ, pos}
use lib.Signed.{lt_z}
use Rattle.whole.proofs.Parts.{clash}
use Rattle.bands.specs.declared.Grid.TheVariants.{Ups}
use Rattle.letters.specs.Letters.{LetterSet, UpsRowsSouth, UpsRowsNorth, place_of, first_tile, north_band, east_band}
use Rattle.bands.specs.Bands.{band_number, grid_of, bands_of}
use Rattle.columns.specs.Columns.{ups_columns, columns_of}
use Rattle.row_letters.specs.RowLetters.{rows_of}
use Rattle.letters.proofs.Laws.{place_below, place_holds}
use Rattle.rows.specs.Letters.{shift_of}
use Rattle.rows.specs.Resolve.{resolve}
use Rattle.rows.proofs.Theorems.{answered, in_rows}
use Rattle.block.specs.declared.Tiles.{Tiles}
use Rattle.block.specs.Block.{tile_of, tiles_of, on_row, utm_block, block_of}
use Rattle.block.proofs.Placed.{placed}
use Rattle.composer.specs.Compose.{letter_of_tile, row_letter}
use Rattle.laws.proofs.Inside.{Kind, kind, utm_columns_lem, Inside, row_side, row_back, utm_inside, half_columns, hemisphere_rows, Polar, ups_inside}
use Rattle.std.specs.Prelude.{Option, Some, None, Ok}

-- what is known of the tiles of a block
pub record Stands (zone : ℤ) (band column row : ℕ) (t : Tiles) : Type 0 where
  pub inside : Inside zone band t.easting t.northing
  pub column_is : letter_of_tile (columns_of zone band) t.easting ≡ column
  pub row_is : row_letter zone (north_band band) t.northing ≡ row

-- the tile of a letter's place has that letter
letter_back : (set : LetterSet) (b c : ℕ) → place_of set b ≡ Some c → letter_of_tile set (first_tile set + c) ≡ b
unfolding letter_of_tile
letter_back set b c e =
    let i : first_tile set + c - first_tile set ≡ c = omega arith in
    rw (le-ltb (first_tile set + c) (first_tile set) (omega arith), i) (place_holds set b c e)

-- ---- UPS

-- so the tiles of two places are in the band's half
in_half : (zone : ℤ) (band k column row c l : ℕ) → grid_of zone ≡ Ups → place_of (bands_of zone) band ≡ Some k
    → place_of (columns_of zone band) column ≡ Some c → place_of (rows_of zone (north_band band)) row ≡ Some l
    → Polar (north_band band) (east_band band) (first_tile (columns_of zone band) + c) (first_tile (rows_of zone (north_band band)) + l)
unfolding bands_of columns_of rows_of
in_half zone band k column row c l g b x y =
    let e = half_columns band k (rw g at b) in
    let west = ap (λ (v : ℕ × ℕ). v.0) e in
    let east = ap (λ (v : ℕ × ℕ). v.1) e in
    let rows = hemisphere_rows (north_band band) in
    let low = rows.0 in
    let high = rows.1 in
    let i = place_below (ups_columns band) column c (rw g at x) in
    let j = place_below (cond (north_band band) UpsRowsNorth UpsRowsSouth) row l (rw g at y) in
    rw g (record { from_west = omega arith; to_east = omega arith; from_low = omega arith; to_high = omega arith })

-- ---- both

module _ (zone : ℤ) (band k column row c l : ℕ) (t : Tiles) (b : place_of (bands_of zone) band ≡ Some k)
    (is_column : place_of (columns_of zone band) column ≡ Some c) (is_row : place_of (rows_of zone (north_band band)) row ≡ Some l) where
  module _ (z : Kind zone false) where
    -- on the row that resolution answers
    on_row_lem : (a : Option ℤ) → resolve (shift_of zone) (band_number band) c l ≡ a → on_row (first_tile (columns_of zone band) + c) a ≡ Ok t
        → Stands zone band column row t
    unfolding row_letter
    on_row_lem (Some found) e x =
        let q : record { easting = first_tile (columns_of zone band) + c; northing = tile_of found } ≡ t = cc in
        let r = answered (band_number band) c (shift_of zone) l found e in
        let h = in_rows (band_number band) c found r.0 in
        let s = row_side zone band k c found z.grid b r.0 in
        rw (← q)
        (record {
          inside = rw (utm_columns_lem zone band z.grid).0 (utm_inside zone band k c found z b r.0);
          column_is = letter_back (columns_of zone band) column c is_column;
          row_is = rw z.test (rw (s, row_back found h.0, r.1) (rw s at (place_holds (rows_of zone (north_band band)) row l is_row)));
        })
    on_row_lem None e x = clash (cc)

    -- the tiles of a UTM block
    utm_stands : utm_block zone band c l (first_tile (columns_of zone band) + c) ≡ Ok t → Stands zone band column row t
    unfolding utm_block
    utm_stands x = on_row_lem (resolve (shift_of zone) (band_number band) c l) refl x

  -- and those of a UPS block
  ups_stands : Kind zone true → tiles_of (first_tile (columns_of zone band) + c) (first_tile (rows_of zone (north_band band)) + l) ≡ Ok t
      → Stands zone band column row t
  unfolding row_letter
  ups_stands z x =
      let q : record { easting = first_tile (columns_of zone band) + c; northing = first_tile (rows_of zone (north_band band)) + l } ≡ t = cc in
      rw (← q)
      (record {
        inside = ups_inside zone band _ _ z (in_half zone band k column row c l z.grid b is_column is_row);
        column_is = letter_back (columns_of zone band) column c is_column;
        row_is = rw z.test (letter_back (rows_of zone (north_band band)) row l is_row);
      })

  -- of either kind
  by_kind : (ups : Bool) → Kind zone ups
      → cond ups (tiles_of (first_tile (columns_of zone band) + c) (first_tile (rows_of zone (north_band band)) + l)) (utm_block zone band c l (first_tile (columns_of zone band) + c)) ≡ Ok t
      → Stands zone band column row t
  by_kind true z x = ups_stands z x
  by_kind false z x = utm_stands z x

-- of every block that was read
pub stands : (zone : ℤ) (band k column row : ℕ) (t : Tiles) → place_of (bands_of zone) band ≡ Some k → block_of zone band column row ≡ Ok t
    → Stands zone band column row t
stands zone band k column row t b e =
    let p = placed zone band column row t e in
    by_kind zone band k column row p.c p.l t b p.is_column p.is_row (lt_z zone (pos 1)) (kind zone band k b) p.then
