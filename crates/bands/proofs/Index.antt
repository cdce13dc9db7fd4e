-- The index of a band's letter. Assumes nothing.
use mathlib.Core.Path.{◌≡◌, refl}
use mathlib.Core.Bool.{Bool, true, false, cond}
use Prim.Native.Nat.{ℕ, ◌≤◌}
use native.Mathlib.Omega.{arith}
use borrow.Author.Tests.{lt-ltb}
use lib.Dec.{ltb, lit≤}
use lib.IntN.{ℤ, pos}
use lib.Signed.{lt_z}
use Rattle.whole.proofs.Parts.{clash}
use Rattle.letters.specs.Letters.{UtmBands, place_of, place_from, is_in}
use Rattle.letters.proofs.Laws.{place_below}
use Rattle.bands.specs.declared.Grid.{Grid}
use Rattle.bands.specs.declared.Grid.TheVariants.{Utm, Ups, NoZone}
use Rattle.bands.specs.Bands.{grid_of, bands_of, band_index}
use Rattle.std.specs.Prelude.{Option, Some, None, is_some}
use Rattle.std.specs.Option.{unwrap_or}

-- a band's letter has its place, and no index is above 20
pub index_is : (b k : ℕ) → place_of UtmBands b ≡ Some k → band_index b ≡ k
unfolding band_index
index_is b k e = rw e

index_by : (b : ℕ) (p : Option ℕ) → place_of UtmBands b ≡ p → unwrap_or p 20 ≤ 20
index_by b (Some k) e = let h = place_below UtmBands b k e in omega arith
index_by b None e = lit≤ tt

pub index_le : (b : ℕ) → band_index b ≤ 20
unfolding band_index
index_le b = index_by b (place_of UtmBands b) refl

-- below 20 are those of the set's letters
in_by : (b : ℕ) (p : Option ℕ) → place_of UtmBands b ≡ p → ltb (unwrap_or p 20) 20 ≡ is_some p
in_by b (Some k) e = lt-ltb k 20 (place_below UtmBands b k e)
in_by b None e = refl

pub index_in : (b : ℕ) → ltb (band_index b) 20 ≡ is_in UtmBands b
unfolding band_index is_in
index_in b = in_by b (place_of UtmBands b) refl

-- in a UTM zone it is the place in the zone's bands
pub zone_index : (zone : ℤ) (b k : ℕ) → grid_of zone ≡ Utm → place_of (bands_of zone) b ≡ Some k → band_index b ≡ k
unfolding bands_of
zone_index zone b k g e = index_is b k (rw g at e)

-- and in no other zone from 1 up has a letter a place
not_ups : (a b : Bool) → cond a NoZone (cond b NoZone Utm) ≡ Ups → ⊥
not_ups true b e = clash (cc)
not_ups false true e = clash (cc)
not_ups false false e = clash (cc)

found_by : (zone : ℤ) (b k : ℕ) (g : Grid) → grid_of zone ≡ g → lt_z zone (pos 1) ≡ false → place_of (bands_of zone) b ≡ Some k → band_index b ≡ k
unfolding bands_of grid_of place_of place_from
found_by zone b k Utm e t p = zone_index zone b k e p
found_by zone b k Ups e t p = absurd (not_ups (lt_z zone (pos 0)) (lt_z (pos 60) zone) (rw t at e))
found_by zone b k NoZone e t p = let f : None ≡ Some k = rw e at p in clash (cc)

pub found_index : (zone : ℤ) (b k : ℕ) → lt_z zone (pos 1) ≡ false → place_of (bands_of zone) b ≡ Some k → band_index b ≡ k
found_index zone b k t p = found_by zone b k (grid_of zone) refl t p
