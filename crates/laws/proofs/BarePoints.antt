-- The point of a bare zone lies in tiles whose points stay as they are and that its band fits. Assumes nothing.
use mathlib.Core.Path.{◌≡◌, refl, ap}
use mathlib.Core.Bool.{Bool, true, false, cond, ◌&&◌}
use Prim.Native.Nat.{ℕ, ◌+◌, ◌-◌, ◌*◌, ◌≤◌, ◌<◌}
use Prim.Native.Char.{code}
use native.Mathlib.Nat.{mul-div_cancel}
use borrow.Author.Tests.{le-leb}
use lib.Dec.{eqb, lit≤, lit<}
use lib.IntN.{ℤ, pos, negsuc, ◌+ℤ◌, ◌-ℤ◌}
use lib.Signed.{lt_z, ◌≤ℤ◌}
use Rattle.whole.specs.Compare.{is_number}
use Rattle.whole.specs.Floor.{floor_div}
use Rattle.whole.proofs.Parts.{T_true}
use Rattle.whole.proofs.Table.{each}
use Rattle.letters.specs.Letters.{UtmBands, place_of, north_band, east_band}
use Rattle.bands.specs.Bands.{bands_of, band_index, band_number}
use Rattle.bands.proofs.Index.{zone_index}
use Rattle.letters.proofs.Laws.{place_below}
use Rattle.rows.specs.Limits.{limits_of}
use Rattle.rows.specs.Allowed.{within, same_sign, allowed}
use Rattle.rows.proofs.Theorems.{in_rows}
use Rattle.position.specs.Units.{tiles, tile_at, metres}
use Rattle.block.specs.Bare.{bare_easting, bare_tile, bare_northing}
use Rattle.block.specs.Block.{tile_of}
use Rattle.block.proofs.Bounds.{south_tile}
use Rattle.laws.proofs.Inside.{Kind, kind, Inside, row_side, utm_inside, Polar, ups_inside}
use Rattle.std.specs.Prelude.{Some}

-- a coordinate that is not negative, and its tile
pub record InTile (z : ℤ) (t : ℕ) : Type 0 where
  pub units : ℕ
  pub is : z ≡ pos units
  pub tile : tile_at units ≡ t

-- the tiles of the point
pub record BarePoint (zone : ℤ) (band : ℕ) : Type 0 where
  pub e : ℕ
  pub n : ℕ
  pub inside : Inside zone band e n
  pub easting : InTile (bare_easting zone band) e
  pub northing : InTile (bare_northing zone band) n

-- ---- UTM

-- the row is within the band's limits, by one computation over the bands, and so allowed in every column
bare_within : (k : ℕ) → k < 20 → within (pos k -ℤ pos 10) (bare_tile k) ≡ true
unfolding limits_of bare_tile floor_div
bare_within k h = T_true (within (pos k -ℤ pos 10) (bare_tile k)) (each 20 (λ k. within (pos k -ℤ pos 10) (bare_tile k)) tt k h)

bare_allowed : (k c : ℕ) → k < 20 → c ≤ 7 → allowed (pos k -ℤ pos 10) c (bare_tile k) ≡ true
unfolding allowed
bare_allowed k c h g = rw (le-leb c 7 g, bare_within k h)

-- "easting 500,000 m, but 400,000 m for 31V": column index 4 or 3
utm_east : (v : Bool) → (cond v 3 4 ≤ 7) × InTile (cond v (metres 400000) (metres 500000)) (1 + cond v 3 4)
utm_east true = (lit≤ tt, record { units = 800000000000; is = refl; tile = refl })
utm_east false = (lit≤ tt, record { units = 1000000000000; is = refl; tile = refl })

-- the northing is its row's tile, "plus 100 in the south"
utm_north : (r : ℤ) → negsuc 89 ≤ℤ r → InTile (cond (same_sign r (pos 0)) (tiles r) (tiles (r +ℤ pos 100))) (tile_of r)
utm_north (pos n) h = record { units = n * 200000000000; is = refl; tile = mul-div_cancel n (lit< tt) }
utm_north (negsuc n) h =
    let e = (south_tile (negsuc n) refl h).0 in
    record { units = (99 - n) * 200000000000; is = ap tiles e; tile = mul-div_cancel (99 - n) (lit< tt) }

-- so the point of a UTM band
utm_point : (zone : ℤ) (band k : ℕ) → Kind zone false → place_of (bands_of zone) band ≡ Some k → BarePoint zone band
unfolding bands_of bare_easting bare_northing
utm_point zone band k z b =
    let v = is_number zone 31 && eqb band (code "V") in
    let i = utm_east v in
    let j = band_index band in
    let h : j < 20 = rw (zone_index zone band k z.grid b) (place_below UtmBands band k (rw z.grid at b)) in
    let a = bare_allowed j (cond v 3 4) h i.0 in
    let s = row_side zone band k (cond v 3 4) (bare_tile j) z.grid b a in
    let n = utm_north (bare_tile j) (in_rows (band_number band) (cond v 3 4) (bare_tile j) a).0 in
    record {
      e = 1 + cond v 3 4;
      n = tile_of (bare_tile j);
      inside = utm_inside zone band k (cond v 3 4) (bare_tile j) z b a;
      easting = rw z.test i.1;
      northing = rw (z.test, s) n;
    }

-- ---- UPS

-- "easting 1,600,000 m for A and Y, 2,400,000 m for B and Z"
ups_east : (east : Bool) → InTile (cond east (metres 2400000) (metres 1600000)) (cond east 24 16)
ups_east true = record { units = 4800000000000; is = refl; tile = refl }
ups_east false = record { units = 3200000000000; is = refl; tile = refl }

-- "northing 2,000,000 m": in the band's half
ups_half : (north east : Bool) → Polar north east (cond east 24 16) 20
ups_half true true = record { from_west = lit≤ tt; to_east = lit< tt; from_low = lit≤ tt; to_high = lit< tt }
ups_half true false = record { from_west = lit≤ tt; to_east = lit< tt; from_low = lit≤ tt; to_high = lit< tt }
ups_half false true = record { from_west = lit≤ tt; to_east = lit< tt; from_low = lit≤ tt; to_high = lit< tt }
ups_half false false = record { from_west = lit≤ tt; to_east = lit< tt; from_low = lit≤ tt; to_high = lit< tt }

-- so the point of a UPS band
ups_point : (zone : ℤ) (band : ℕ) → Kind zone true → BarePoint zone band
unfolding bare_easting bare_northing
ups_point zone band z = record {
  e = cond (east_band band) 24 16;
  n = 20;
  inside = ups_inside zone band _ _ z (ups_half (north_band band) (east_band band));
  easting = rw z.test (ups_east (east_band band));
  northing = rw z.test (record { units = 4000000000000; is = refl; tile = refl });
}

-- ---- both

-- of either kind
by_kind : (zone : ℤ) (band k : ℕ) (ups : Bool) → Kind zone ups → place_of (bands_of zone) band ≡ Some k → BarePoint zone band
by_kind zone band k true z b = ups_point zone band z
by_kind zone band k false z b = utm_point zone band k z b

-- of every band
pub bare_point : (zone : ℤ) (band k : ℕ) → place_of (bands_of zone) band ≡ Some k → BarePoint zone band
bare_point zone band k b = by_kind zone band k (lt_z zone (pos 1)) (kind zone band k b) b
