-- Which bands a zone has: document 01, "Letters". Assumes nothing.
use Rattle.std.specs.Prelude.{cond, ℕ, ℤ, pos, ◌-ℤ◌}
use Rattle.std.specs.Option.{unwrap_or}
use Rattle.std.specs.Int.Signed.{lt_z}
use Rattle.bands.specs.declared.Grid.{Grid}
use Rattle.bands.specs.declared.Grid.TheVariants.{Utm, Ups, NoZone}
use Rattle.letters.specs.Letters.{LetterSet, NoLetters, UtmBands, UpsBands, place_of}

-- "zone not 0..60" is none; "zone (0 for UPS)"; the others are UTM's.
unfoldable pub grid_of : ℤ → Grid
grid_of zone = cond (lt_z zone (pos 0)) NoZone (cond (lt_z (pos 60) zone) NoZone (cond (lt_z zone (pos 1)) Ups Utm))

abbrev pub by_grid : {A : Type 0} → Grid → A → A → A → A
by_grid Utm utm ups none = utm
by_grid Ups utm ups none = ups
by_grid NoZone utm ups none = none

-- "UTM bands", "UPS bands".
unfoldable pub bands_of : ℤ → LetterSet
bands_of zone = by_grid (grid_of zone) UtmBands UpsBands NoLetters

-- "UTM bands -10..9: CDEFGHJKLMNPQRSTUVWX", "k = 0..19 for C..X": which of them a letter is, 20 for any other, and its number.
unfoldable pub band_index : ℕ → ℕ
band_index b = unwrap_or (place_of UtmBands b) 20

abbrev pub band_number : ℕ → ℤ
band_number b = pos (band_index b) -ℤ pos 10
