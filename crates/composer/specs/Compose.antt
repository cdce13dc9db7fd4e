-- From a point to the parts of its reference, refusals 14 to 19 in their order: document 01, "Writing". Assumes nothing.
use Rattle.std.specs.Prelude.{Bool, true, false, cond, not, ◌&&◌, ℕ, ◌-◌, ◌/◌, ◌%◌, ltb, leb, ℤ, pos, negsuc, ◌-ℤ◌, Result, Ok, Err}
use Rattle.std.specs.Int.Signed.{lt_z}
use Rattle.whole.specs.Compare.{outside}
use Rattle.whole.specs.Floor.{fold}
use Rattle.letters.specs.Letters.{LetterSet, place_of, by_place, letter_at, first_tile, north_band, east_band}
use Rattle.bands.specs.Bands.{bands_of, band_number}
use Rattle.columns.specs.Columns.{columns_of}
use Rattle.row_letters.specs.RowLetters.{rows_of}
use Rattle.rows.specs.Allowed.{allowed}
use Rattle.rows.specs.Letters.{shift_of, letter_of}
use Rattle.position.specs.declared.Parts.{Parts}
use Rattle.ranges.specs.declared.Point.{Point}
use Rattle.position.specs.Units.{tile_at}
use Rattle.ranges.specs.Edges.{mgrs_check}
use Rattle.position.specs.Squares.{side_length}
use Rattle.rules.specs.declared.Refusal.{Refusal}
use Rattle.rules.specs.declared.Refusal.TheVariants.{NoSuchZone, WrongPrecision, NoSuchBand, BandMisfits}
use Rattle.composer.specs.declared.Reference.{Reference}
use Rattle.composer.specs.declared.Reference.TheVariants.{Full, Bare}

-- "Southern tiles are r+100": the signed row of a tile.
unfoldable pub row_of_tile : Bool → ℕ → ℤ
row_of_tile north t = cond north (pos t) (pos t -ℤ pos 100)

-- The letter of a tile, in a set whose first letter has a tile of its own; 0 below it and past the set's end.
unfoldable pub letter_of_tile : LetterSet → ℕ → ℕ
letter_of_tile set t = cond (ltb t (first_tile set)) 0 (letter_at set (t - first_tile set))

-- "A UTM band fits if the row is allowed for it and the column": "column index 0..7 is tile 1..8".
unfoldable pub utm_fits : ℕ → ℕ → ℤ → Bool
utm_fits band column row = allowed (band_number band) (column - 1) row

abbrev pub agree : Bool → Bool → Bool
agree true b = b
agree false b = not b

-- "A UPS band fits if hemisphere and side agree (east from tile 20)."
unfoldable pub ups_fits : ℕ → Bool → ℕ → Bool
ups_fits band north column = agree (north_band band) north && agree (east_band band) (leb 20 column)

-- Of zone, band, hemisphere, the tiles of easting and northing.
unfoldable pub fits : ℤ → ℕ → Bool → ℕ → ℕ → Bool
fits zone band north column tile = cond (lt_z zone (pos 1)) (ups_fits band north column) (utm_fits band column (row_of_tile north tile))

-- "the letter of signed row r is at r mod 20 .. in odd zones, (r+5) mod 20 in even ones"; a UPS row's tile has its letter.
unfoldable pub row_letter : ℤ → Bool → ℕ → ℕ
row_letter zone north tile =
    let rows = rows_of zone north in
    cond (lt_z zone (pos 1)) (letter_of_tile rows tile) (letter_at rows (letter_of (shift_of zone) (row_of_tile north tile)))

-- "Digits are cut, never rounded": the whole sides of a square from the tile's edge on.
unfoldable pub cut_of : ℤ → ℕ → ℕ
cut_of p x = x % 200000000000 / side_length p

unfoldable pub parts_at : ℤ → ℕ → Bool → ℤ → ℕ → ℕ → Parts
parts_at zone band north p e n = record {
  zone = zone;
  band = band;
  column = letter_of_tile (columns_of zone band) (tile_at e);
  row = row_letter zone north (tile_at n);
  p = p;
  easting = cut_of p e;
  northing = cut_of p n;
}

-- "-1 means bare zone": it has a zone and a band, and nothing of the point.
unfoldable pub made_of : ℤ → ℕ → Bool → ℤ → ℕ → ℕ → Reference
made_of zone band north p e n =
    cond (lt_z p (pos 0)) (Bare (record { zone = zone; band = band })) (Full (parts_at zone band north p e n))

-- After the edge rules; no coordinate is negative then.
unfoldable pub composed_at : ℤ → ℕ → Bool → ℤ → ℕ → ℕ → Result Reference Refusal
composed_at zone band north p e n =
    by_place (place_of (bands_of zone) band) (Err NoSuchBand)  -- "band letter not a capital of that kind's set"
    (λ k. cond (not (fits zone band north (tile_at e) (tile_at n))) (Err BandMisfits)  -- "band does not fit"
    (Ok (made_of zone band north p e n)))

abbrev pub reached : Result Point Refusal → (Point → Result Reference Refusal) → Result Reference Refusal
reached (Err n) rest = Err n
reached (Ok point) rest = rest point

-- Of zone, hemisphere, band, p, easting and northing.
unfoldable pub composed : ℤ → Bool → ℕ → ℤ → ℤ → ℤ → Result Reference Refusal
composed zone north band p e n =
    cond (outside (pos 0) (pos 60) zone) (Err NoSuchZone)  -- "zone not 0..60"
    (cond (outside (negsuc 0) (pos 11) p) (Err WrongPrecision)  -- "p not -1..11"
    (reached (mgrs_check zone north e n)  -- "easting out of range", "northing out of range": 16, 17
    (λ point. composed_at zone band point.north p (fold point.easting) (fold point.northing))))
