-- The point of a bare zone is exact in f64. Assumes nothing.
use mathlib.Core.Bool.{Bool, true, false, cond, ◌&&◌}
use Prim.Native.Nat.{ℕ, ◌≤◌, ◌<◌}
use native.Mathlib.Omega.{arith}
use lib.Dec.{eqb, lit≤}
use lib.IntN.{ℤ, pos, ◌+ℤ◌}
use lib.Signed.{lt_z}
use Rattle.whole.specs.Compare.{is_number}
use Rattle.whole.proofs.Small.{Small, computed, product}
use Rattle.letters.specs.Letters.{north_band, east_band}
use Rattle.bands.specs.Bands.{band_index}
use Rattle.bands.proofs.Index.{index_le}
use Rattle.position.specs.declared.Position.{Position}
use Rattle.position.specs.Units.{tiles, metres}
use Rattle.position.proofs.Exact.{Exactly}
use Rattle.block.specs.Bare.{bare_tile, bare_easting, bare_northing, bare_of}
use Rattle.block.proofs.Bounds.{bare_small, sided_small}

pub record Near (q : Position) : Type 0 where
  pub east : Exactly q.easting
  pub north : Exactly q.northing

more : {m : ℕ} {z : ℤ} → Small m z → m ≤ 9007199254740991 → Exactly z
more s h = let a = s.least in let b = s.most in record { least = omega arith; most = omega arith }

bare_east : (zone : ℤ) (band : ℕ) → Exactly (bare_easting zone band)
unfolding bare_easting
bare_east zone band = by (lt_z zone (pos 1)) (east_band band) (is_number zone 31 && eqb band 86)
  where
    by : (a b c : Bool) → Exactly (cond a (cond b (metres 2400000) (metres 1600000)) (cond c (metres 400000) (metres 500000)))
    by true true c = computed _ (metres 2400000) tt
    by true false c = computed _ (metres 1600000) tt
    by false b true = computed _ (metres 400000) tt
    by false b false = computed _ (metres 500000) tt

bare_north : (zone : ℤ) (band : ℕ) → Exactly (bare_northing zone band)
unfolding bare_northing
bare_north zone band = by (lt_z zone (pos 1)) (north_band band)
  where
    k : ℕ
    k = band_index band

    h : k < 24
    h = omega (arith, index_le band)

    by : (a b : Bool) → Exactly (cond a (metres 2000000) (cond b (tiles (bare_tile k)) (tiles (bare_tile k +ℤ pos 100))))
    by true b = computed _ (metres 2000000) tt
    by false true = more (product (bare_tile k) 200000000000 (bare_small k h)) (lit≤ tt)
    by false false = more (product (bare_tile k +ℤ pos 100) 200000000000 (sided_small k h false)) (lit≤ tt)

pub point_near : (zone : ℤ) (band : ℕ) → Near (bare_of zone band)
unfolding bare_of
point_near zone band = record { east = bare_east zone band; north = bare_north zone band }
