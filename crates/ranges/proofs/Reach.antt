-- Where a point stands after the edge rules: on its grid, in its hemisphere's range, upper ends out. Assumes nothing.
use mathlib.Core.Path.{◌≡◌, refl, sym, ◌∙◌}
use mathlib.Core.Bool.{Bool, true, false, cond}
use Prim.Native.Nat.{ℕ, ◌+◌, ◌*◌, ◌≤◌, ◌<◌}
use native.Mathlib.Omega.{arith}
use lib.Dec.{lit<, lit≤}
use lib.IntN.{ℤ, pos, negsuc, ◌+ℤ◌, ◌-ℤ◌}
use lib.Signed.{lt_z, le_z}
use Rattle.whole.specs.Compare.{same}
use Rattle.whole.specs.Floor.{fold}
use Rattle.whole.proofs.Parts.{up, dn, clash, eq_by, lt_yes, lt_no, le_yes, le_no, add_parts, sub_parts}
use Rattle.whole.proofs.Signed.{same→eq, same_yes}
use Rattle.bands.specs.declared.Grid.{Grid}
use Rattle.bands.specs.declared.Grid.TheVariants.{Utm, Ups, NoZone}
use Rattle.bands.specs.Bands.{grid_of}
use Rattle.std.proofs.Common.{Ok, Err}
use Rattle.rules.specs.declared.Refusal.TheVariants.{EastingOut, NorthingOut}
use Rattle.ranges.specs.declared.Ends.{Ends}
use Rattle.ranges.specs.declared.Point.{Point}
use Rattle.position.specs.Units.{tiles}
use Rattle.ranges.specs.Ranges.{from_to, eastings, northings, moved, outside_of, judged, verdict}
use Rattle.ranges.specs.Edges.{lowered, point, side_of, edge, moved_by, mgrs_check}
use Rattle.ranges.proofs.Edges.{Between, inside}

-- ---- behind a point: its grid and the ranges that it lay in

-- a point with the range of its grid on each axis
record Landed (utm north : Bool) (e n : ℤ) (pt : Point) : Type 0 where
  pub in_range : Between (eastings utm north) e × Between (northings utm north) n
  pub is : pt ≡ edge utm north e n

module _ (north : Bool) (e n : ℤ) (pt : Point) where
  -- what is moved passed both tests
  moved_by_lem : (utm a b : Bool) → moved_by north e n (cond a (Err EastingOut) (cond b (Err NorthingOut) (Ok utm))) ≡ Ok pt → (cond a (Err EastingOut) (cond b (Err NorthingOut) (Ok utm)) ≡ Ok utm) × (pt ≡ edge utm north e n)
  moved_by_lem utm true b h = clash (cc)
  moved_by_lem utm false true h = clash (cc)
  moved_by_lem utm false false h = (refl, cc)

  -- a point that is moved was inside the ranges of its grid
  landed : (utm : Bool) → moved_by north e n (judged (pos 0) utm north e n) ≡ Ok pt → Landed utm north e n pt
  unfolding judged
  landed utm h =
      let a = moved_by_lem utm (outside_of (moved (pos 0) (eastings utm north)) e) (outside_of (moved (pos 0) (northings utm north)) n) h in
      record { in_range = inside utm north e n a.0; is = a.1 }

  module _ (zone : ℤ) (h : mgrs_check zone north e n ≡ Ok pt) where
    -- by the grid of the zone
    utm_landed : grid_of zone ≡ Utm → Landed true north e n pt
    unfolding mgrs_check verdict
    utm_landed g = landed true (rw g at h)

    ups_landed : grid_of zone ≡ Ups → Landed false north e n pt
    unfolding mgrs_check verdict
    ups_landed g = landed false (rw g at h)

    no_zone : grid_of zone ≡ NoZone → ⊥
    unfolding mgrs_check verdict
    no_zone g = let k = rw g at h in clash (cc)

-- ---- lowered from the upper end

-- from the lower end on and below the upper one
pub record Under (ends : Ends) (x : ℤ) : Type 0 where
  pub from : up ends.low + dn x ≤ up x + dn ends.low
  pub to : up x + dn ends.high < up ends.high + dn x

-- two numbers that are not the same have other parts
apart : (a b : ℤ) → same a b ≡ false → up a + dn b ≡ up b + dn a → ⊥
apart a b e q = let z : true ≡ false = sym (same_yes a b (eq_by a b q)) ∙ e in clash (cc)

-- what lay between two ends lies so when it is lowered
under_by : (ends : Ends) (x : ℤ) (t : Bool) → same x ends.high ≡ t → up ends.low + dn ends.high < up ends.high + dn ends.low → Between ends x → Under ends (cond t (x -ℤ pos 1) x)
unfolding up dn
under_by ends x true e w b =
    let s = sub_parts x (pos 1) in
    let q = same→eq x ends.high e in
    let v = rw (← q) at w in
    record { from = omega arith; to = rw (← q) (omega arith) }
under_by ends x false e w b =
    let h = b.from in
    let k = b.to in
    let ne = apart x ends.high e in
    record { from = h; to = omega arith }

under : (ends : Ends) (x : ℤ) → up ends.low + dn ends.high < up ends.high + dn ends.low → Between ends x → Under ends (lowered ends x)
unfolding lowered
under ends x w b = under_by ends x (same x ends.high) refl w b

-- ---- as counts of units

-- a coordinate that is a count, from low tiles on and below high ones
pub record Counted (low high : ℕ) (z : ℤ) : Type 0 where
  pub count : ℕ
  pub is : z ≡ pos count
  pub least : low * 200000000000 ≤ count
  pub lt : count < high * 200000000000

-- the same from the parts
counted : (low high : ℕ) (z : ℤ) → low * 200000000000 + dn z ≤ up z → up z < high * 200000000000 + dn z → Counted low high z
unfolding up dn
counted low high (pos n) h k = record { count = n; is = refl; least = omega arith; lt = omega arith }
counted low high (negsuc n) h k = absurd (omega arith)

-- a coordinate between ends that are no negative tiles, lowered
axis : (low high : ℕ) (x : ℤ) → low < high → Between (from_to (pos low) (pos high)) x → Counted low high (lowered (from_to (pos low) (pos high)) x)
unfolding up dn
axis low high x o b =
    let s = under (from_to (pos low) (pos high)) x (omega arith) b in
    let f = s.from in
    let t = s.to in
    counted low high (lowered (from_to (pos low) (pos high)) x) (omega arith) (omega arith)

-- ---- UPS: the hemisphere stays

-- both coordinates in one range
pub record Within (low high : ℕ) (pt : Point) : Type 0 where
  pub east : Counted low high pt.easting
  pub north : Counted low high pt.northing

-- "easting UPS south 8-32, UPS north 13-27 ..; northing UPS the same as its easting"
pub record UpsReach (pt : Point) : Type 0 where
  pub north : pt.north ≡ true → Within 13 27 pt
  pub south : pt.north ≡ false → Within 8 32 pt

-- the ends of UPS, lowered, by hemisphere
polar : (north : Bool) (e n : ℤ) → Between (eastings false north) e × Between (northings false north) n → UpsReach (point north (lowered (eastings false north) e) (lowered (northings false north) n))
polar true e n b = record { north = λ h. record { east = axis 13 27 e (lit< tt) b.0; north = axis 13 27 n (lit< tt) b.1 }; south = λ h. clash (cc) }
polar false e n b = record { north = λ h. clash (cc); south = λ h. record { east = axis 8 32 e (lit< tt) b.0; north = axis 8 32 n (lit< tt) b.1 } }

-- ---- UTM: the northing changes its hemisphere

-- "easting .. UTM 1-9"; the northings of the north, and of the south, where they end at a hundred tiles
pub record UtmReach (pt : Point) : Type 0 where
  pub east : Counted 1 9 pt.easting
  pub north : pt.north ≡ true → Counted 0 95 pt.northing
  pub south : pt.north ≡ false → Counted 10 100 pt.northing

module _ (e n : ℤ) (east : Counted 1 9 e) where
  -- given in the north, and given in the south: by the tests of the edge rules
  from_north : Under (northings true true) n → (t : Bool) → lt_z n (pos 0) ≡ t → UtmReach (cond t (point false e (n +ℤ tiles (pos 100))) (point true e n))
  unfolding up dn
  from_north u true h =
      let a = lt_yes n (pos 0) h in
      let f = u.from in
      let s = add_parts n (tiles (pos 100)) in
      record { east = east; north = λ h. clash (cc); south = λ h. counted 10 100 (n +ℤ tiles (pos 100)) (omega arith) (omega arith) }
  from_north u false h =
      let a = lt_no n (pos 0) h in
      let f = u.to in
      record { east = east; north = λ h. counted 0 95 n (omega arith) (omega arith); south = λ h. clash (cc) }

  from_south : Under (northings true false) n → (s t : Bool) → lt_z n (tiles (pos 100)) ≡ s → le_z n (tiles (pos 100)) ≡ t
      → UtmReach (cond s (point false e n) (cond t (point false e (n -ℤ pos 1)) (point true e (n -ℤ tiles (pos 100)))))
  unfolding up dn
  from_south u true t h g =
      let a = lt_yes n (tiles (pos 100)) h in
      let f = u.from in
      record { east = east; north = λ h. clash (cc); south = λ h. counted 10 100 n (omega arith) (omega arith) }
  from_south u false true h g =
      let a = lt_no n (tiles (pos 100)) h in
      let b = le_yes n (tiles (pos 100)) g in
      let s = sub_parts n (pos 1) in
      record { east = east; north = λ h. clash (cc); south = λ h. counted 10 100 (n -ℤ pos 1) (omega arith) (omega arith) }
  from_south u false false h g =
      let b = le_no n (tiles (pos 100)) g in
      let f = u.to in
      let s = sub_parts n (tiles (pos 100)) in
      record { east = east; north = λ h. counted 0 95 (n -ℤ tiles (pos 100)) (omega arith) (omega arith); south = λ h. clash (cc) }

  by_side : (north : Bool) → Under (northings true north) n → UtmReach (side_of north e n)
  unfolding side_of
  by_side true u = from_north u (lt_z n (pos 0)) refl
  by_side false u = from_south u (lt_z n (tiles (pos 100))) (le_z n (tiles (pos 100))) refl refl

-- both northings' ends lie in their order
in_order : (north : Bool) → up (northings true north).low + dn (northings true north).high < up (northings true north).high + dn (northings true north).low
unfolding up dn
in_order true = omega arith
in_order false = omega arith

-- the ends of UTM, lowered, by hemisphere
utm_side : (north : Bool) (e n : ℤ) → Between (eastings true north) e × Between (northings true north) n → UtmReach (side_of north (lowered (eastings true north) e) (lowered (northings true north) n))
utm_side north e n b =
    by_side (lowered (eastings true north) e) (lowered (northings true north) n) (axis 1 9 e (lit< tt) b.0) north
    (under (northings true north) n (in_order north) b.1)

-- ---- the laws

-- a count from the first tile on
counted_least : (low high : ℕ) (z : ℤ) → 1 ≤ low → Counted low high z → 200000000000 ≤ fold z
counted_least low high z l c = let k = c.least in rw c.is (omega arith)

-- a count is what it folds to
counted_is : (low high : ℕ) (z : ℤ) → Counted low high z → z ≡ pos (fold z)
counted_is low high z c = rw c.is

-- on every grid both coordinates are counts, the easting of a tile at least
record Stands (pt : Point) : Type 0 where
  pub least : 200000000000 ≤ fold pt.easting
  pub east : pt.easting ≡ pos (fold pt.easting)
  pub north : pt.northing ≡ pos (fold pt.northing)

-- so in UPS, by hemisphere
within_stands : (low high : ℕ) (pt : Point) → 1 ≤ low → Within low high pt → Stands pt
within_stands low high pt h w =
    record { least = counted_least low high pt.easting h w.east; east = counted_is low high pt.easting w.east; north = counted_is low high pt.northing w.north }

ups_stands : (pt : Point) (t : Bool) → pt.north ≡ t → UpsReach pt → Stands pt
ups_stands pt true e r = within_stands 13 27 pt (lit≤ tt) (r.north e)
ups_stands pt false e r = within_stands 8 32 pt (lit≤ tt) (r.south e)

-- and in UTM
utm_north : (pt : Point) (t : Bool) → pt.north ≡ t → UtmReach pt → pt.northing ≡ pos (fold pt.northing)
utm_north pt true e r = counted_is 0 95 pt.northing (r.north e)
utm_north pt false e r = counted_is 10 100 pt.northing (r.south e)

utm_stands : (pt : Point) → UtmReach pt → Stands pt
utm_stands pt r =
    record { least = counted_least 1 9 pt.easting (lit≤ tt) r.east; east = counted_is 1 9 pt.easting r.east; north = utm_north pt pt.north refl r }

module _ (zone : ℤ) (north : Bool) (e n : ℤ) (pt : Point) (h : mgrs_check zone north e n ≡ Ok pt) where
  -- after the edge rules, in UTM
  pub utm_reach : grid_of zone ≡ Utm → UtmReach pt
  unfolding edge
  utm_reach g = let l = utm_landed north e n pt zone h g in rw l.is (utm_side north e n l.in_range)

  -- after the edge rules, in UPS
  pub ups_reach : grid_of zone ≡ Ups → UpsReach pt
  unfolding edge
  ups_reach g = let l = ups_landed north e n pt zone h g in rw l.is (polar north e n l.in_range)

  -- and in every zone
  stands_by : (g : Grid) → grid_of zone ≡ g → Stands pt
  stands_by Utm g = utm_stands pt (utm_reach g)
  stands_by Ups g = ups_stands pt pt.north refl (ups_reach g)
  stands_by NoZone g = absurd (no_zone north e n pt zone h g)

  pub east_least : 200000000000 ≤ fold pt.easting
  east_least = (stands_by (grid_of zone) refl).least

  pub east_count : pt.easting ≡ pos (fold pt.easting)
  east_count = (stands_by (grid_of zone) refl).east

  pub north_count : pt.northing ≡ pos (fold pt.northing)
  north_count = (stands_by (grid_of zone) refl).north
