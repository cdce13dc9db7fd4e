-- What the block of four letters is in each grid. Assumes nothing.
use mathlib.Core.Path.{◌≡◌, refl}
use Prim.Native.Nat.{ℕ, ◌+◌}
use lib.IntN.{ℤ, pos}
use lib.Signed.{lt_z}
use mathlib.Core.Bool.{false}
use borrow.Author.Tests.{le-ltb}
use Rattle.letters.specs.Letters.{UtmRows, place_of, place_from, by_place, first_tile, tile_in, north_band}
use Rattle.bands.specs.declared.Grid.TheVariants.{Utm, NoZone}
use Rattle.bands.specs.Bands.{grid_of}
use Rattle.bands.proofs.ZoneNumber.{utm_zone}
use Rattle.columns.specs.Columns.{ups_columns, utm_columns_of, columns_of}
use Rattle.columns.proofs.Guesses.{utm_tile}
use Rattle.row_letters.specs.RowLetters.{ups_rows, rows_of}
use Rattle.block.specs.Block.{tiles_of, utm_block, block_of}
use Rattle.std.specs.Prelude.{Option, Some, None, Err}
use Rattle.rules.specs.declared.Refusal.TheVariants.{WrongColumn, WrongRow}

-- UTM: the columns of the zone, from tile 1 on
from_one : (zone : ℤ) → grid_of zone ≡ Utm → lt_z zone (pos 1) ≡ false
from_one zone g = let z = utm_zone zone g in rw z.is (le-ltb _ 1 z.least)

pub in_utm : (zone : ℤ) (band column row : ℕ) → grid_of zone ≡ Utm
    → block_of zone band column row ≡ by_place (place_of (utm_columns_of zone) column) (Err WrongColumn) (λ c. by_place (place_of UtmRows row) (Err WrongRow) (λ l. utm_block zone band c l (1 + c)))
unfolding block_of columns_of utm_columns_of rows_of
in_utm zone band column row g = rw (g, from_one zone g, ← utm_tile _)

-- UPS: both letters are tiles
by_tiles : (p q : Option ℕ) (m n : ℕ)
    → by_place p (Err WrongColumn) (λ c. by_place q (Err WrongRow) (λ l. tiles_of (m + c) (n + l)))
    ≡ by_place (by_place p None (λ k. Some (m + k))) (Err WrongColumn) (λ c. by_place (by_place q None (λ k. Some (n + k))) (Err WrongRow) (λ l. tiles_of c l))
by_tiles None q m n = refl
by_tiles (Some c) None m n = refl
by_tiles (Some c) (Some l) m n = refl

pub in_ups : (band column row : ℕ)
    → block_of (pos 0) band column row ≡ by_place (tile_in (ups_columns band) column) (Err WrongColumn) (λ c. by_place (tile_in (ups_rows (north_band band)) row) (Err WrongRow) (λ l. tiles_of c l))
unfolding block_of columns_of rows_of grid_of tile_in
in_ups band column row = by_tiles (place_of (ups_columns band) column) (place_of (ups_rows (north_band band)) row) (first_tile (ups_columns band)) (first_tile (ups_rows (north_band band)))

-- a number that is no zone has no column
pub in_none : (zone : ℤ) (band column row : ℕ) → grid_of zone ≡ NoZone → block_of zone band column row ≡ Err WrongColumn
unfolding block_of columns_of place_of place_from
in_none zone band column row g = rw g
