-- The band of a latitude and the zone of a latitude and a longitude: document 01, "Smaller services".
-- "Latitude and longitude are signed 64-bit billionths of a degree." A number below 0, -(n + 1), is `negsuc n`. Assumes nothing.
use Rattle.std.specs.Prelude.{Bool, cond, ◌&&◌, Result, Ok, Err, ℤ, pos, negsuc, ◌+ℤ◌, ◌-ℤ◌, ◌*ℤ◌}
use Rattle.std.specs.Int.Signed.{lt_z, le_z}
use Rattle.whole.specs.Floor.{floor_div, floor_mod}
use Rattle.whole.specs.Compare.{is_number}
use Rattle.rules.specs.declared.Refusal.{Refusal}
use Rattle.rules.specs.declared.Refusal.TheVariants.{LatitudeOut}

-- "floor to degrees"
unfoldable pub degrees : ℤ → ℤ
degrees x = floor_div x 1000000000

-- "-10 below -72, then 8 degrees a band, 9 from 72 up."
unfoldable pub band_at : ℤ → ℤ
band_at d = cond (lt_z d (negsuc 71)) (negsuc 9) (cond (le_z (pos 72) d) (pos 9) (floor_div d 8))

unfoldable pub band_of : ℤ → ℤ
band_of latitude = band_at (degrees latitude)

-- "Longitude floors to degrees and is brought to -180..179"
unfoldable pub turned : ℤ → ℤ
turned d = pos (floor_mod (d +ℤ pos 180) 360) -ℤ pos 180

-- "zone is (degrees+186)/6, rounded down."
unfoldable pub plain : ℤ → ℤ
plain d = floor_div (d +ℤ pos 186) 6

-- "Band 7, zone 31, degrees 3 or more"
abbrev pub norway : ℤ → ℤ → ℤ → Bool
norway b zone d = is_number b 7 && is_number zone 31 && le_z (pos 3) d

-- "Band 9, degrees 0..41"
abbrev pub arctic : ℤ → ℤ → Bool
arctic b d = is_number b 9 && le_z (pos 0) d && le_z d (pos 41)

-- "2 x floor((degrees+183)/12) + 1"
unfoldable pub svalbard : ℤ → ℤ
svalbard d = floor_div (d +ℤ pos 183) 12 *ℤ pos 2 +ℤ pos 1

-- "Band 7, zone 31, degrees 3 or more: 32. Band 9, degrees 0..41: .."
unfoldable pub zone_at : ℤ → ℤ → ℤ
zone_at b d = cond (norway b (plain d) d) (pos 32) (cond (arctic b d) (svalbard d) (plain d))

-- "22 if latitude is outside -90..90. From -80 to below 84 UTM, else zone 0."
unfoldable pub zone_of : ℤ → ℤ → Result ℤ Refusal
zone_of latitude longitude =
    cond (lt_z latitude (negsuc 89999999999)) (Err LatitudeOut)
    (cond (lt_z (pos 90000000000) latitude) (Err LatitudeOut)
    (cond (lt_z latitude (negsuc 79999999999)) (Ok (pos 0))
    (cond (le_z (pos 84000000000) latitude) (Ok (pos 0))
    (Ok (zone_at (band_of latitude) (turned (degrees longitude)))))))
