-- Which set of row letters a zone or a UPS hemisphere uses: document 01, "Letters". Assumes nothing.
use Rattle.std.specs.Prelude.{Bool, cond, ℤ}
use Rattle.letters.specs.Letters.{LetterSet, NoLetters, UtmRows, UpsRowsSouth, UpsRowsNorth}
use Rattle.bands.specs.Bands.{grid_of, by_grid}

-- "UPS rows: south .., north ..".
abbrev pub ups_rows : Bool → LetterSet
ups_rows north = cond north UpsRowsNorth UpsRowsSouth

-- "UTM rows", or those of UPS.
unfoldable pub rows_of : ℤ → Bool → LetterSet
rows_of zone north = by_grid (grid_of zone) UtmRows (ups_rows north) NoLetters
