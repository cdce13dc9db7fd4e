-- A point in the tiles of a block or of a bare zone stays as it is, and its band fits: in UTM on an allowed row, in UPS on
-- the side of its band. Assumes nothing.
use mathlib.Core.Path.{◌≡◌, refl, sym, ◌∙◌, subst}
use mathlib.Core.Bool.{Bool, true, false, cond, ◌||◌}
use Prim.Native.Nat.{ℕ, ◌+◌, ◌-◌, ◌≤◌, ◌<◌}
use native.Mathlib.Omega.{arith}
use borrow.Author.Tests.{le-leb, lt-leb}
use lib.Dec.{T, eqb, leb, leb→le}
use lib.IntN.{ℤ, pos, negsuc, ◌-ℤ◌}
use lib.Signed.{lt_z, ◌≤ℤ◌}
use mir.Facts.{and_yes}
use Rattle.whole.specs.Compare.{outside}
use Rattle.whole.specs.Floor.{floor_mod}
use Rattle.whole.proofs.Parts.{up, dn, clash, eq_by, sub_parts, ≤ℤ-parts}
use Rattle.whole.proofs.Table.{alike}
use Rattle.bands.specs.declared.Grid.TheVariants.{Utm, Ups, NoZone}
use Rattle.letters.specs.Letters.{UtmBands, UpsBands, UtmColumns0, UtmColumns1, UtmColumns2, UpsRowsSouth, UpsRowsNorth, place_from, place_of, letter_at, first_tile, north_band, east_band}
use Rattle.bands.specs.Bands.{grid_of, bands_of, band_number}
use Rattle.columns.specs.Columns.{utm_columns, ups_columns, columns_of}
use Rattle.bands.proofs.Index.{index_is}
use Rattle.letters.proofs.Laws.{size_of, place_below, place_holds}
use Rattle.rows.specs.Allowed.{within, same_sign, folded, allowed}
use Rattle.rows.proofs.Theorems.{in_rows, own_sign}
use Rattle.ranges.specs.Ranges.{from_to, eastings}
use Rattle.position.specs.Units.{tile_at}
use Rattle.ranges.specs.Edges.{point, mgrs_check}
use Rattle.ranges.proofs.Stays.{north_stays, south_stays, polar_stays}
use Rattle.block.specs.Block.{tile_of}
use Rattle.composer.specs.Compose.{row_of_tile, utm_fits, agree, ups_fits, fits}
use Rattle.std.specs.Prelude.{Some, None, Ok}

-- ---- the zone

-- a zone of 0..60 that is UPS or is not
pub record Kind (zone : ℤ) (ups : Bool) : Type 0 where
  pub grid : grid_of zone ≡ cond ups Ups Utm
  pub test : lt_z zone (pos 1) ≡ ups
  pub in_range : outside (pos 0) (pos 60) zone ≡ false

-- a zone that has a grid is one, by its tests
kind_by : (zone : ℤ) (a b c : Bool) → lt_z zone (pos 0) ≡ a → lt_z (pos 60) zone ≡ b → lt_z zone (pos 1) ≡ c → (grid_of zone ≡ NoZone → ⊥) → Kind zone c
unfolding grid_of outside
kind_by zone true b c p q r n = absurd (n (rw p))
kind_by zone false true c p q r n = absurd (n (rw (p, q)))
kind_by zone false false c p q r n = record { grid = rw (p, q, r); test = r; in_range = rw (p, q) }

-- without a grid there are no bands
no_bands : (zone : ℤ) (band k : ℕ) → place_of (bands_of zone) band ≡ Some k → grid_of zone ≡ NoZone → ⊥
unfolding bands_of place_of place_from
no_bands zone band k e g = let x : None ≡ Some k = rw g at e in clash (cc)

-- so a zone with a band is one
pub kind : (zone : ℤ) (band k : ℕ) → place_of (bands_of zone) band ≡ Some k → Kind zone (lt_z zone (pos 1))
kind zone band k e = kind_by zone (lt_z zone (pos 0)) (lt_z (pos 60) zone) (lt_z zone (pos 1)) refl refl refl (no_bands zone band k e)

-- "column index 0..7 is tile 1..8": the columns of a UTM zone are eight, from the first tile on
columns_by : (a b : Bool) → let set = cond a UtmColumns0 (cond b UtmColumns1 UtmColumns2) in (first_tile set ≡ 1) × (size_of set ≡ 8)
unfolding first_tile
columns_by true b = (refl, refl)
columns_by false true = (refl, refl)
columns_by false false = (refl, refl)

pub utm_columns_lem : (zone : ℤ) (band : ℕ) → grid_of zone ≡ Utm → (first_tile (columns_of zone band) ≡ 1) × (size_of (columns_of zone band) ≡ 8)
unfolding columns_of utm_columns
utm_columns_lem zone band g = let m = floor_mod (zone -ℤ pos 1) 3 in rw g (columns_by (eqb m 0) (eqb m 1))

-- ---- the tiles

-- of the tiles of easting and northing: the band fits, and every point in them stays as it is
pub record Inside (zone : ℤ) (band e n : ℕ) : Type 0 where
  pub fit : fits zone band (north_band band) e n ≡ true
  pub stays : (x y : ℕ) → tile_at x ≡ e → tile_at y ≡ n
      → mgrs_check zone (north_band band) (pos x) (pos y) ≡ Ok (point (north_band band) (pos x) (pos y))

-- ---- UTM: an allowed row

-- the letters from N are the bands from 0 on
band_side : (band k : ℕ) → place_of UtmBands band ≡ Some k → north_band band ≡ same_sign (band_number band) (pos 0)
unfolding letter_at
band_side band k e =
    rw (index_is band k e, ← place_holds UtmBands band k e)
    (alike (λ k. north_band (letter_at UtmBands k)) (λ k. same_sign (pos k -ℤ pos 10) (pos 0)) 20 refl true k (place_below UtmBands band k e))

-- of two numbers with one sign, both or neither have that of 0
one_side : (b r : ℤ) → same_sign b r ≡ true → same_sign b (pos 0) ≡ same_sign r (pos 0)
one_side (pos b) (pos r) e = refl
one_side (pos b) (negsuc r) e = sym e
one_side (negsuc b) (pos r) e = e
one_side (negsuc b) (negsuc r) e = refl

-- so an allowed row is north of the equator exactly if its band is
pub row_side : (zone : ℤ) (band k c : ℕ) (r : ℤ) → grid_of zone ≡ Utm → place_of (bands_of zone) band ≡ Some k → allowed (band_number band) c r ≡ true
    → north_band band ≡ same_sign r (pos 0)
unfolding bands_of
row_side zone band k c r g e a = band_side band k (rw g at e) ∙ one_side (band_number band) r (own_sign (band_number band) c r a)

-- a row's tile, on its side of the equator, is the tile of that row
pub row_back : (r : ℤ) → negsuc 89 ≤ℤ r → row_of_tile (same_sign r (pos 0)) (tile_of r) ≡ r
unfolding row_of_tile up dn
row_back (pos n) h = refl
row_back (negsuc n) h =
    let k = ≤ℤ-parts (negsuc 89) (negsuc n) h in
    let s = sub_parts (pos (99 - n)) (pos 100) in
    eq_by (pos (99 - n) -ℤ pos 100) (negsuc n) (omega arith)

-- a point in it stays
row_stays : (zone r : ℤ) (x y : ℕ) → grid_of zone ≡ Utm → negsuc 89 ≤ℤ r → r ≤ℤ pos 94 → 1 ≤ tile_at x → tile_at x < 9 → tile_at y ≡ tile_of r
    → mgrs_check zone (same_sign r (pos 0)) (pos x) (pos y) ≡ Ok (point (same_sign r (pos 0)) (pos x) (pos y))
unfolding up dn
row_stays zone (pos n) x y g h k a b e = north_stays zone x y g a b (omega (arith, ≤ℤ-parts (pos n) (pos 94) k))
row_stays zone (negsuc n) x y g h k a b e =
    let i = ≤ℤ-parts (negsuc 89) (negsuc n) h in
    south_stays zone x y g a b (omega arith) (omega arith)

-- the column index of an allowed row is one of 0..7
column_le : (b : ℤ) (c : ℕ) (r : ℤ) → allowed b c r ≡ true → c ≤ 7
unfolding allowed
column_le b c r a = leb→le c 7 (and_yes (leb c 7) (within b r || folded b c r) (subst T (sym a) tt)).0

-- so the tiles of a column and an allowed row are inside
pub utm_inside : (zone : ℤ) (band k c : ℕ) (r : ℤ) → Kind zone false → place_of (bands_of zone) band ≡ Some k → allowed (band_number band) c r ≡ true
    → Inside zone band (1 + c) (tile_of r)
unfolding fits utm_fits
utm_inside zone band k c r z p a =
    let h = in_rows (band_number band) c r a in
    let b = column_le (band_number band) c r a in
    let s = row_side zone band k c r z.grid p a in
    let i : 1 + c - 1 ≡ c = omega arith in
    record {
      fit = rw (s, z.test, row_back r h.0, i) a;
      stays = λ x y e n. rw s (row_stays zone r x y z.grid h.0 h.1 (omega arith) (omega arith) n);
    }

-- ---- UPS: the side of the band

-- the ranges in tiles of a hemisphere, and of its western and eastern half
abbrev pub low_tile : Bool → ℕ
low_tile north = cond north 13 8

abbrev pub high_tile : Bool → ℕ
high_tile north = cond north 27 32

abbrev pub west_tile : Bool → Bool → ℕ
west_tile north east = cond east 20 (low_tile north)

abbrev pub east_tile : Bool → Bool → ℕ
east_tile north east = cond east (high_tile north) 20

-- the tiles of a band's columns, and those of its half: the first, and the one past the last
abbrev pub column_tiles : ℕ → ℕ × ℕ
column_tiles b = (first_tile (ups_columns b), first_tile (ups_columns b) + size_of (ups_columns b))

abbrev pub half_tiles : ℕ → ℕ × ℕ
half_tiles b = (west_tile (north_band b) (east_band b), east_tile (north_band b) (east_band b))

-- they are the same, by one computation over the four bands
pub half_columns : (band k : ℕ) → place_of UpsBands band ≡ Some k → column_tiles band ≡ half_tiles band
unfolding letter_at first_tile ups_columns east_band
half_columns band k e =
    rw (← place_holds UpsBands band k e)
    (alike (λ k. column_tiles (letter_at UpsBands k)) (λ k. half_tiles (letter_at UpsBands k)) 4 refl (0, 0) k (place_below UpsBands band k e))

-- a hemisphere's rows are its tiles
pub hemisphere_rows : (north : Bool) → let rows = cond north UpsRowsNorth UpsRowsSouth in
    (first_tile rows ≡ low_tile north) × (first_tile rows + size_of rows ≡ high_tile north)
unfolding first_tile
hemisphere_rows true = (refl, refl)
hemisphere_rows false = (refl, refl)

-- tiles in a half of a hemisphere
pub record Polar (north east : Bool) (e n : ℕ) : Type 0 where
  pub from_west : west_tile north east ≤ e
  pub to_east : e < east_tile north east
  pub from_low : low_tile north ≤ n
  pub to_high : n < high_tile north

-- are in the hemisphere
half : (north east : Bool) (e : ℕ) → west_tile north east ≤ e → e < east_tile north east → (low_tile north ≤ e) × (e < high_tile north)
half true true e h k = (omega arith, omega arith)
half true false e h k = (omega arith, omega arith)
half false true e h k = (omega arith, omega arith)
half false false e h k = (omega arith, omega arith)

-- and on its side: "east from tile 20"
side : (north east : Bool) (e : ℕ) → west_tile north east ≤ e → e < east_tile north east → agree east (leb 20 e) ≡ true
side north true e h k = rw (le-leb 20 e h)
side north false e h k = rw (lt-leb 20 e k)

-- a hemisphere agrees with itself
agree_self : (b : Bool) → agree b b ≡ true
agree_self true = refl
agree_self false = refl

-- its ends are those of the ranges
ends_are : (north : Bool) → eastings false north ≡ from_to (pos (low_tile north)) (pos (high_tile north))
ends_are true = refl
ends_are false = refl

-- so tiles in the half of a band are inside
pub ups_inside : (zone : ℤ) (band e n : ℕ) → Kind zone true → Polar (north_band band) (east_band band) e n → Inside zone band e n
unfolding fits ups_fits
ups_inside zone band e n z t =
    let b = half (north_band band) (east_band band) e t.from_west t.to_east in
    let s = t.from_low in
    let m = t.to_high in
    record {
      fit = rw (z.test, agree_self (north_band band), side (north_band band) (east_band band) e t.from_west t.to_east);
      stays = λ x y u v.
          polar_stays zone x y (north_band band) (low_tile (north_band band)) (high_tile (north_band band)) z.grid (ends_are (north_band band))
          (rw u b.0) (rw u b.1) (rw v s) (rw v m);
    }
