-- What stands behind a reference that is composed: the tests that it passed and what each of them found. Assumes nothing.
use mathlib.Core.Path.{◌≡◌, refl}
use mathlib.Core.Bool.{Bool, true, false, cond, not}
use Prim.Native.Nat.{ℕ, ◌≤◌}
use native.Mathlib.Omega.{arith}
use borrow.Author.Tests.{ltb-false, not-false}
use lib.IntN.{ℤ, pos, negsuc}
use lib.Signed.{lt_z}
use Rattle.whole.specs.Compare.{outside}
use Rattle.whole.specs.Floor.{fold}
use Rattle.whole.proofs.Choice.{past}
use Rattle.whole.proofs.Parts.{clash}
use Rattle.whole.proofs.Ranges.{not_outside}
use Rattle.letters.specs.Letters.{place_of}
use Rattle.bands.specs.Bands.{bands_of}
use Rattle.letters.proofs.Places.{in_set}
use Rattle.position.specs.declared.Parts.{Parts}
use Rattle.ranges.specs.declared.Point.{Point}
use Rattle.ranges.specs.Edges.{mgrs_check}
use Rattle.composer.specs.declared.BareZone.{BareZone}
use Rattle.position.specs.Units.{tile_at}
use Rattle.composer.specs.Compose.{fits, parts_at, made_of, composed_at, reached, composed}
use Rattle.std.specs.Prelude.{Some, Result, Ok, Err}
use Rattle.rules.specs.declared.Refusal.{Refusal}
use Rattle.rules.specs.declared.Refusal.TheVariants.{NoSuchZone, WrongPrecision, NoSuchBand, BandMisfits}
use Rattle.composer.specs.declared.Reference.{Reference}
use Rattle.composer.specs.declared.Reference.TheVariants.{Full, Bare as BareText}

-- the outcome of the edge rules, where a refusal is not the answer
record Reached (c : Result Point Refusal) (at : Point → Result Reference Refusal) (y : Result Reference Refusal) : Type 0 where
  pub point : Point
  pub is : c ≡ Ok point
  pub then : at point ≡ y

-- every test passed, of zone, hemisphere, band, p, easting and northing
pub record Checked (zone : ℤ) (north : Bool) (band : ℕ) (p e n : ℤ) : Type 0 where
  pub zone_in : outside (pos 0) (pos 60) zone ≡ false
  pub p_in : outside (negsuc 0) (pos 11) p ≡ false
  pub point : Point
  pub is_point : mgrs_check zone north e n ≡ Ok point
  pub k : ℕ
  pub is_band : place_of (bands_of zone) band ≡ Some k
  pub fit : fits zone band point.north (tile_at (fold point.easting)) (tile_at (fold point.northing)) ≡ true

-- what is made of a point that passed them
abbrev pub made_at : {zone : ℤ} {north : Bool} {band : ℕ} {p e n : ℤ} → Checked zone north band p e n → Reference
made_at {zone} {north} {band} {p} c = made_of zone band c.point.north p (fold c.point.easting) (fold c.point.northing)

-- that this is the answer
pub record Passed (zone : ℤ) (north : Bool) (band : ℕ) (p e n : ℤ) (y : Reference) : Type 0 where
  pub checked : Checked zone north band p e n
  pub then : made_at checked ≡ y

module _ (y : Reference) where
  taken : (n : Refusal) → Err n ≡ Ok y → ⊥
  taken n e = clash (cc)

  same_made : (x : Reference) → ◌≡◌ {A = Result Reference Refusal} (Ok x) (Ok y) → x ≡ y
  same_made x e = cc

  -- the edge rules moved the point
  reached_by : (c : Result Point Refusal) (at : Point → Result Reference Refusal) → reached c at ≡ Ok y → Reached c at (Ok y)
  reached_by (Err n) at e = absurd (taken n e)
  reached_by (Ok point) at e = record { point = point; is = refl; then = e }

  -- an answer that is no refusal passed every test
  pub passed : (zone : ℤ) (north : Bool) (band : ℕ) (p e n : ℤ) → composed zone north band p e n ≡ Ok y → Passed zone north band p e n y
  unfolding composed composed_at
  passed zone north band p e n x =
      let a = past (outside (pos 0) (pos 60) zone) _ _ _ (taken NoSuchZone) x in
      let b = past (outside (negsuc 0) (pos 11) p) _ _ _ (taken WrongPrecision) a.1 in
      let c = reached_by (mgrs_check zone north e n) (λ point. composed_at zone band point.north p (fold point.easting) (fold point.northing)) b.1 in
      let u = fold c.point.easting in
      let v = fold c.point.northing in
      let made = made_of zone band c.point.north p u v in
      let d = in_set (place_of (bands_of zone) band) (Err NoSuchBand) (λ k. cond (not (fits zone band c.point.north (tile_at u) (tile_at v))) (Err BandMisfits) (Ok made)) (Ok y) (taken NoSuchBand) c.then in
      let f = past (not (fits zone band c.point.north (tile_at u) (tile_at v))) _ _ _ (taken BandMisfits) d.then in
      record {
        checked = record { zone_in = a.0; p_in = b.0; point = c.point; is_point = c.is; k = d.k; is_band = d.is; fit = not-false _ f.0 };
        then = same_made _ f.1;
      }

-- ---- behind a full reference and behind a bare zone

-- p is not negative, and the parts are those of the point
pub record Fully (zone : ℤ) (north : Bool) (band : ℕ) (p e n : ℤ) (parts : Parts) : Type 0 where
  pub checked : Checked zone north band p e n
  pub digits : lt_z p (pos 0) ≡ false
  pub is : parts ≡ parts_at zone band checked.point.north p (fold checked.point.easting) (fold checked.point.northing)

-- p is -1, and there is the zone and the band
pub record Barely (zone : ℤ) (north : Bool) (band : ℕ) (p e n : ℤ) (z : BareZone) : Type 0 where
  pub checked : Checked zone north band p e n
  pub no_digits : lt_z p (pos 0) ≡ true
  pub is : z ≡ record { zone = zone; band = band }

-- by the test of p
full_by : (t : Bool) (b : BareZone) (made parts : Parts) → cond t (BareText b) (Full made) ≡ Full parts → (t ≡ false) × (parts ≡ made)
full_by true b made parts e = clash (cc)
full_by false b made parts e = (refl, cc)

bare_by : (t : Bool) (b : BareZone) (made : Parts) (z : BareZone) → cond t (BareText b) (Full made) ≡ BareText z → (t ≡ true) × (z ≡ b)
bare_by true b made z e = (refl, cc)
bare_by false b made z e = clash (cc)

module _ (zone : ℤ) (north : Bool) (band : ℕ) (p e n : ℤ) where
  -- what stands behind a full reference
  pub full : (parts : Parts) → composed zone north band p e n ≡ Ok (Full parts) → Fully zone north band p e n parts
  unfolding made_of
  full parts x =
      let a = passed (Full parts) zone north band p e n x in
      let b = full_by (lt_z p (pos 0)) _ _ parts a.then in
      record { checked = a.checked; digits = b.0; is = b.1 }

  -- what stands behind a bare zone
  pub bare : (z : BareZone) → composed zone north band p e n ≡ Ok (BareText z) → Barely zone north band p e n z
  unfolding made_of
  bare z x =
      let a = passed (BareText z) zone north band p e n x in
      let b = bare_by (lt_z p (pos 0)) _ _ z a.then in
      record { checked = a.checked; no_digits = b.0; is = b.1 }

-- ---- p is at most 11

-- of p in its range
few_at : (p : ℤ) → outside (negsuc 0) (pos 11) p ≡ false → fold p ≤ 11
few_at (pos n) e = ltb-false 11 n (not_outside (negsuc 0) (pos 11) (pos n) e).1
few_at (negsuc n) e = let h = ltb-false 0 n (not_outside (negsuc 0) (pos 11) (negsuc n) e).0 in omega arith

pub few : (zone : ℤ) (north : Bool) (band : ℕ) (p e n : ℤ) (parts : Parts) → composed zone north band p e n ≡ Ok (Full parts) → fold parts.p ≤ 11
unfolding parts_at
few zone north band p e n parts x = let f = full zone north band p e n parts x in rw f.is (few_at p f.checked.p_in)
