-- The tables hold: each text is read and each point is written by the definitions, step by step. Assumes nothing.
use mathlib.Core.Path.{refl}
use Rattle.whole.specs.Floor.{floor_div, floor_mod}
use Rattle.whole.specs.Compare.{outside}
use Rattle.letters.specs.Letters.{capital_of, place_from, place_of, letter_at, first_tile, east_band}
use Rattle.bands.specs.Bands.{grid_of, bands_of, band_index}
use Rattle.columns.specs.Columns.{utm_columns, ups_columns, columns_of}
use Rattle.row_letters.specs.RowLetters.{rows_of}
use Rattle.rows.specs.Limits.{limits_of}
use Rattle.rows.specs.Allowed.{allowed}
use Rattle.rows.specs.Letters.{shift_of, letter_of}
use Rattle.rows.specs.Resolve.{first_row, resolve}
use Rattle.ranges.specs.Ranges.{judged, verdict}
use Rattle.ranges.specs.Edges.{lowered, side_of, edge, mgrs_check}
use Rattle.position.specs.Squares.{half_of, side_length, centre_of, corner_of}
use Rattle.words.specs.Bytes.{has_high, is_digit, all_digits}
use Rattle.runs.specs.Runs.{value_from, leading_digits, lead_of, last_digits}
use Rattle.head.specs.Head.{inv_letters, is_inv, zone_wrong, head_of}
use Rattle.block.specs.Bare.{bare_easting, bare_tile, bare_northing, bare_of}
use Rattle.block.specs.Block.{utm_block, block_of}
use Rattle.runs.specs.Digits.{digits_of}
use Rattle.reader.specs.Read.{square_of, full_of, tail_of, read_of}
use Rattle.writer.specs.Text.{head_text, block_text, full_text}
use Rattle.composer.specs.Compose.{row_of_tile, letter_of_tile, utm_fits, fits, row_letter, cut_of, parts_at, made_of, composed_at, composed}
use Rattle.writer.specs.Write.{fit_of, leaves_of, write_of, write_leaves}
use Rattle.laws.specs.Tables.{All}
use Rattle.laws.specs.Starred.{starred, bare_zones}

pub starred_hold : All starred
unfolding floor_div floor_mod capital_of place_from place_of letter_at first_tile grid_of bands_of utm_columns ups_columns columns_of rows_of east_band limits_of allowed shift_of letter_of first_row resolve outside judged verdict lowered side_of edge mgrs_check half_of side_length centre_of corner_of has_high is_digit all_digits value_from leading_digits lead_of last_digits inv_letters is_inv zone_wrong head_of bare_easting bare_tile band_index bare_northing bare_of utm_block block_of digits_of square_of full_of tail_of read_of head_text block_text full_text row_of_tile letter_of_tile utm_fits fits row_letter cut_of parts_at made_of composed_at composed fit_of leaves_of write_of write_leaves
starred_hold = (refl, (refl, (refl, (refl, (refl, (refl, (refl, (refl, (refl, (refl, (refl, (refl, (refl, tt)))))))))))))

pub bare_zones_hold : All bare_zones
unfolding floor_div floor_mod capital_of place_from place_of grid_of bands_of east_band has_high is_digit value_from leading_digits lead_of inv_letters is_inv zone_wrong head_of bare_easting bare_tile band_index bare_northing bare_of tail_of read_of
bare_zones_hold =
    (refl, (refl, (refl, (refl, (refl, (refl, (refl, (refl, (refl, (refl, (refl, (refl, (refl, (refl, (refl, (refl, (refl, (refl, (refl, (refl, (refl, (refl, (refl, (refl, (refl, tt)))))))))))))))))))))))))
