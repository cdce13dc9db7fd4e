-- The ranges of eastings and northings, and the UTM range test: document 01, "Writing" and "Smaller services". Assumes nothing.
use Rattle.std.specs.Prelude.{Bool, true, false, cond, Result, Ok, Err, ℤ, pos, negsuc, ◌+ℤ◌, ◌-ℤ◌}
use Rattle.whole.specs.Compare.{outside}
use Rattle.position.specs.Units.{tiles}
use Rattle.bands.specs.Bands.{grid_of, by_grid}
use Rattle.ranges.specs.declared.Ends.{Ends}
use Rattle.rules.specs.declared.Refusal.{Refusal}
use Rattle.rules.specs.declared.Refusal.TheVariants.{NoSuchZone, EastingOut, NorthingOut}

abbrev pub from_to : ℤ → ℤ → Ends
from_to a b = record { low = tiles a; high = tiles b }

-- "Ranges in tiles ..: easting UPS south 8-32, UPS north 13-27, UTM 1-9", of UTM or UPS, north or south.
abbrev pub eastings : Bool → Bool → Ends
eastings true north = from_to (pos 1) (pos 9)
eastings false true = from_to (pos 13) (pos 27)
eastings false false = from_to (pos 8) (pos 32)

-- "northing UPS the same as its easting, UTM south 10-195, UTM north -90 to 95": -90 is `negsuc 89`.
abbrev pub northings : Bool → Bool → Ends
northings false north = eastings false north
northings true false = from_to (pos 10) (pos 195)
northings true true = from_to (negsuc 89) (pos 95)

-- Both ends "moved outward" by a margin.
abbrev pub moved : ℤ → Ends → Ends
moved margin ends = record { low = ends.low -ℤ margin; high = ends.high +ℤ margin }

-- Below the lower end or above the upper one: both ends are in.
abbrev pub outside_of : Ends → ℤ → Bool
outside_of ends x = outside ends.low ends.high x

-- "16 easting out of range; 17 northing out of range", in this order: inside, of UTM or UPS, or the refusal.
unfoldable pub judged : ℤ → Bool → Bool → ℤ → ℤ → Result Bool Refusal
judged margin utm north e n =
    cond (outside_of (moved margin (eastings utm north)) e) (Err EastingOut)
    (cond (outside_of (moved margin (northings utm north)) n) (Err NorthingOut) (Ok utm))

-- "14 zone not 0..60", before the two.
unfoldable pub verdict : ℤ → ℤ → Bool → ℤ → ℤ → Result Bool Refusal
verdict margin zone north e n = by_grid (grid_of zone) (judged margin true north e n) (judged margin false north e n) (Err NoSuchZone)

abbrev pub in_range : Result Bool Refusal → Result (Unit {0}) Refusal
in_range (Ok utm) = Ok tt
in_range (Err r) = Err r

-- "UTM range test: the same numbers, both ends in and moved outward by one tile."
unfoldable pub utm_check : ℤ → Bool → ℤ → ℤ → Result (Unit {0}) Refusal
utm_check zone north e n = in_range (verdict (tiles (pos 1)) zone north e n)
