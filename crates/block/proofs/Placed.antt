-- What stands behind a block: the places of its letters, and how large its tiles are. Assumes nothing.
use mathlib.Core.Path.{◌≡◌, refl}
use mathlib.Core.Bool.{Bool, true, false, cond}
use Prim.Native.Nat.{ℕ, ◌+◌, ◌<◌}
use native.Mathlib.Omega.{arith}
use lib.IntN.{ℤ, pos, negsuc}
use lib.Signed.{lt_z, ◌≤ℤ◌}
use Rattle.whole.proofs.Parts.{clash}
use Rattle.letters.specs.Letters.{place_of, by_place, first_tile, north_band}
use Rattle.letters.proofs.Laws.{first_le}
use Rattle.letters.proofs.Places.{in_set, place_lt}
use Rattle.bands.specs.Bands.{band_number}
use Rattle.columns.specs.Columns.{columns_of}
use Rattle.row_letters.specs.RowLetters.{rows_of}
use Rattle.rows.specs.Allowed.{allowed}
use Rattle.rows.specs.Letters.{shift_of}
use Rattle.rows.specs.Resolve.{resolve}
use Rattle.rows.proofs.Theorems.{answered, in_rows}
use Rattle.block.specs.declared.Tiles.{Tiles}
use Rattle.block.specs.Block.{tile_of, tiles_of, on_row, utm_block, block_of}
use Rattle.block.proofs.Bounds.{south_tile, north_tile}
use Rattle.std.specs.Prelude.{Option, Some, None, Result, Ok, Err}
use Rattle.rules.specs.declared.Refusal.{Refusal}
use Rattle.rules.specs.declared.Refusal.TheVariants.{WrongColumn, WrongRow}

-- the tiles of a column's and a row's place
abbrev pub at_places : ℤ → ℕ → ℕ → ℕ → Result Tiles Refusal
at_places zone band c l =
    cond (lt_z zone (pos 1)) (tiles_of (first_tile (columns_of zone band) + c) (first_tile (rows_of zone (north_band band)) + l))
    (utm_block zone band c l (first_tile (columns_of zone band) + c))

pub record Placed (zone : ℤ) (band column row : ℕ) (t : Tiles) : Type 0 where
  pub c : ℕ
  pub is_column : place_of (columns_of zone band) column ≡ Some c
  pub l : ℕ
  pub is_row : place_of (rows_of zone (north_band band)) row ≡ Some l
  pub then : at_places zone band c l ≡ Ok t

no_block : (n : Refusal) (t : Tiles) → Err n ≡ Ok t → ⊥
no_block n t e = clash (cc)

pub placed : (zone : ℤ) (band column row : ℕ) (t : Tiles) → block_of zone band column row ≡ Ok t → Placed zone band column row t
unfolding block_of
placed zone band column row t e =
    let at : ℕ → Result Tiles Refusal = λ c. by_place (place_of (rows_of zone (north_band band)) row) (Err WrongRow) (at_places zone band c) in
    let a = in_set (place_of (columns_of zone band) column) (Err WrongColumn) at (Ok t) (no_block WrongColumn t) e in
    let b = in_set (place_of (rows_of zone (north_band band)) row) (Err WrongRow) (at_places zone band a.k) (Ok t) (no_block WrongRow t) a.then in
    record { c = a.k; is_column = a.is; l = b.k; is_row = b.is; then = b.then }

-- ---- the tiles

pub record Low (t : Tiles) : Type 0 where
  pub east : t.easting < 100
  pub north : t.northing < 100

low_by : (e n : ℕ) (t : Tiles) → e < 100 → n < 100 → tiles_of e n ≡ Ok t → Low t
low_by e n t h g x =
    let k : record { easting = e; northing = n } ≡ t = cc in
    record { east = rw (← k) h; north = rw (← k) g }

tile_lt : (r : ℤ) (b : ℤ) (c : ℕ) → allowed b c r ≡ true → tile_of r < 100
tile_lt r b c a = let h = in_rows b c r a in by_sign r (lt_z r (pos 0)) refl h.0 h.1
  where
    by_sign : (r : ℤ) (t : Bool) → lt_z r (pos 0) ≡ t → negsuc 89 ≤ℤ r → r ≤ℤ pos 94 → tile_of r < 100
    by_sign r true e h g = (south_tile r e h).1
    by_sign r false e h g = (north_tile r e g).1

utm_low : (easting s : ℕ) (b : ℤ) (c l : ℕ) (t : Tiles) → easting < 100 → (a : Option ℤ) → resolve s b c l ≡ a → on_row easting a ≡ Ok t → Low t
utm_low easting s b c l t h (Some found) e x = low_by easting (tile_of found) t h (tile_lt found b c (answered b c s l found e).0) x
utm_low easting s b c l t h None e x = clash (cc)

utm_tiles : (zone : ℤ) (band c l easting : ℕ) (t : Tiles) → easting < 100 → utm_block zone band c l easting ≡ Ok t → Low t
unfolding utm_block
utm_tiles zone band c l easting t h x = utm_low easting (shift_of zone) (band_number band) c l t h _ refl x

pub low : (zone : ℤ) (band column row : ℕ) (t : Tiles) → block_of zone band column row ≡ Ok t → Low t
low zone band column row t e = by_kind (lt_z zone (pos 1)) p.then
  where
    p : Placed zone band column row t
    p = placed zone band column row t e

    column_lt : first_tile (columns_of zone band) + p.c < 100
    column_lt = let a = first_le (columns_of zone band) in let b = place_lt _ _ _ p.is_column in omega arith

    row_lt : first_tile (rows_of zone (north_band band)) + p.l < 100
    row_lt = let a = first_le (rows_of zone (north_band band)) in let b = place_lt _ _ _ p.is_row in omega arith

    by_kind : (u : Bool) → cond u (tiles_of (first_tile (columns_of zone band) + p.c) (first_tile (rows_of zone (north_band band)) + p.l)) (utm_block zone band p.c p.l (first_tile (columns_of zone band) + p.c)) ≡ Ok t → Low t
    by_kind true x = low_by _ _ t column_lt row_lt x
    by_kind false x = utm_tiles zone band p.c p.l _ t column_lt x
