-- The tiles of a column and a row letter, refusals 8, 9 and 10 in their order: document 01, "Reading bytes" and "Letters".
-- Assumes nothing.
use Rattle.std.specs.Prelude.{cond, ℕ, ◌+◌, ◌-◌, ℤ, pos, negsuc, Option, Some, None, Result, Ok, Err}
use Rattle.std.specs.Int.Signed.{lt_z}
use Rattle.letters.specs.Letters.{place_of, by_place, first_tile, north_band}
use Rattle.bands.specs.Bands.{band_number}
use Rattle.columns.specs.Columns.{columns_of}
use Rattle.row_letters.specs.RowLetters.{rows_of}
use Rattle.rows.specs.Letters.{shift_of}
use Rattle.rows.specs.Resolve.{resolve}
use Rattle.rules.specs.declared.Refusal.{Refusal}
use Rattle.rules.specs.declared.Refusal.TheVariants.{WrongColumn, WrongRow, NoAllowedRow}
use Rattle.block.specs.declared.Tiles.{Tiles}

-- "Southern tiles are r+100": of the row -(r + 1) that is 99 - r.
abbrev pub tile_of : ℤ → ℕ
tile_of (pos r) = r
tile_of (negsuc r) = 99 - r

abbrev pub tiles_of : ℕ → ℕ → Result Tiles Refusal
tiles_of easting northing = Ok (record { easting = easting; northing = northing })

abbrev pub on_row : ℕ → Option ℤ → Result Tiles Refusal
on_row easting (Some row) = tiles_of easting (tile_of row)
on_row easting None = Err NoAllowedRow

-- UTM: the row of the band, or 10: "no allowed row has this row letter".
unfoldable pub utm_block : ℤ → ℕ → ℕ → ℕ → ℕ → Result Tiles Refusal
utm_block zone band c l easting = on_row easting (resolve (shift_of zone) (band_number band) c l)

-- A column's tile is its place from its set's first tile on, and so is a row's in UPS, zone 0: "all are allowed".
unfoldable pub block_of : ℤ → ℕ → ℕ → ℕ → Result Tiles Refusal
block_of zone band column row =
    let columns = columns_of zone band in
    let rows = rows_of zone (north_band band) in
    by_place (place_of columns column) (Err WrongColumn)  -- "column letter .. not in its set"
    (λ c. by_place (place_of rows row) (Err WrongRow)  -- "row letter, not in its set"
    (λ l. cond (lt_z zone (pos 1)) (tiles_of (first_tile columns + c) (first_tile rows + l))
    (utm_block zone band c l (first_tile columns + c))))
