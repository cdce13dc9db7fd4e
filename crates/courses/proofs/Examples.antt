-- What the definitions say of small inputs, by computation. Assumes nothing.
use mathlib.Core.Path.{◌≡◌, refl}
use mathlib.Core.List.{List, [], ◌∷◌, ◌++◌}
use Prim.Native.Nat.{ℕ}
use Prim.Native.Char.{code}
use Rattle.whole.specs.Floor.{floor_div, floor_mod}
use Rattle.whole.specs.Text.{bytes}
use Rattle.letters.specs.Letters.{capital_of, place_from, place_of, letter_at, first_tile, east_band}
use Rattle.bands.specs.Bands.{grid_of, bands_of, band_index}
use Rattle.columns.specs.Columns.{utm_columns, ups_columns, columns_of}
use Rattle.row_letters.specs.RowLetters.{rows_of}
use Rattle.rows.specs.Limits.{limits_of}
use Rattle.rows.specs.Allowed.{allowed}
use Rattle.rows.specs.Letters.{shift_of, letter_of}
use Rattle.rows.specs.Resolve.{first_row, resolve}
use Rattle.position.specs.Squares.{half_of, side_length, centre_of, corner_of}
use Rattle.words.specs.Bytes.{has_high, is_digit, all_digits}
use Rattle.runs.specs.Runs.{value_from, leading_digits, lead_of}
use Rattle.runs.specs.Digits.{digits_of}
use Rattle.head.specs.Head.{inv_letters, is_inv, zone_wrong, head_of}
use Rattle.block.specs.Bare.{bare_easting, bare_tile, bare_northing, bare_of}
use Rattle.block.specs.Block.{utm_block, block_of}
use Rattle.reader.specs.Read.{square_of, full_of, tail_of, read_of}
use Rattle.listing.specs.Numerals.{numeral, signed}
use Rattle.listing.specs.Listing.{zone_text, units_text, refusal_text, answer_of, line_of}
use Rattle.lines.specs.Lines.{glue, lines_of, numbered, listing_of}

abbrev Lines : List ℕ → List (List ℕ) → Type 0
Lines s ls = lines_of s ≡ ls

-- nothing; an LF alone; a line that is not ended, and one that is; two LFs in a row, and an open line after them
pub small : Lines [] []
    × Lines (10 ∷ []) ([] ∷ [])
    × Lines (code "a" ∷ []) ((code "a" ∷ []) ∷ [])
    × Lines (code "a" ∷ 10 ∷ []) ((code "a" ∷ []) ∷ [])
    × Lines (code "a" ∷ 10 ∷ 10 ∷ code "b" ∷ code "c" ∷ []) ((code "a" ∷ []) ∷ [] ∷ (code "b" ∷ code "c" ∷ []) ∷ [])
unfolding lines_of glue
small = (refl, refl, refl, refl, refl)

-- document 01's input, whose last line is not ended, and exactly its listing
pub worked : listing_of read_of (bytes "18TWL856641113154" ++ (10 ∷ bytes "18T" ++ (10 ∷ bytes "18TW")))
    ≡ bytes "1 18 N T 6 1171328300000 9022630900000" ++ (10 ∷ bytes "2 18 N T -1 1000000000000 9800000000000" ++ (10 ∷ bytes "3 R 7" ++ (10 ∷ [])))
unfolding listing_of lines_of glue numbered line_of answer_of zone_text units_text refusal_text numeral signed floor_div floor_mod capital_of place_from place_of letter_at first_tile grid_of bands_of utm_columns ups_columns columns_of rows_of east_band limits_of allowed shift_of letter_of first_row resolve half_of side_length centre_of corner_of has_high is_digit all_digits value_from leading_digits lead_of inv_letters is_inv zone_wrong head_of bare_easting bare_tile band_index bare_northing bare_of utm_block block_of digits_of square_of full_of tail_of read_of
worked = refl
