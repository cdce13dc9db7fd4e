-- The point of a bare zone: document 01, "Reading bytes". Assumes nothing.
use Rattle.std.specs.Prelude.{cond, ◌&&◌, ℕ, ◌*◌, eqb, ℤ, pos, negsuc, ◌+ℤ◌, ◌-ℤ◌}
use Prim.Native.Char.{code}
use Rattle.std.specs.Int.Signed.{lt_z}
use Rattle.whole.specs.Compare.{is_number}
use Rattle.whole.specs.Floor.{floor_div}
use Rattle.letters.specs.Letters.{north_band, east_band}
use Rattle.bands.specs.Bands.{band_index}
use Rattle.position.specs.declared.Position.{Position}
use Rattle.position.specs.Units.{metres, tiles}

-- "UTM: easting 500,000 m, but 400,000 m for 31V"; "UPS: easting 1,600,000 m for A and Y, 2,400,000 m for B and Z"
unfoldable pub bare_easting : ℤ → ℕ → ℤ
bare_easting zone band =
    cond (lt_z zone (pos 1)) (cond (east_band band) (metres 2400000) (metres 1600000))
    (cond (is_number zone 31 && eqb band (code "V")) (metres 400000) (metres 500000))

-- "northing in tiles floor((160k - 1511)/18), k = 0..19 for C..X"
unfoldable pub bare_tile : ℕ → ℤ
bare_tile k = floor_div (pos (160 * k) -ℤ pos 1511) 18

-- ".. plus 100 in the south"; UPS: "northing 2,000,000 m"
unfoldable pub bare_northing : ℤ → ℕ → ℤ
bare_northing zone band =
    let tile = bare_tile (band_index band) in
    cond (lt_z zone (pos 1)) (metres 2000000)
    (cond (north_band band) (tiles tile) (tiles (tile +ℤ pos 100)))

-- "-1 means bare zone"
unfoldable pub bare_of : ℤ → ℕ → Position
bare_of zone band = record {
  zone = zone;
  north = north_band band;
  band = band;
  p = negsuc 0;
  easting = bare_easting zone band;
  northing = bare_northing zone band;
}
