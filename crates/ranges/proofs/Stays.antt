-- A point from the lower ends of its ranges to below the upper ones, on its own side of the equator, stays as it is under
-- the edge rules. Assumes nothing.
use mathlib.Core.Path.{◌≡◌, refl, ap, ◌∙◌}
use mathlib.Core.Bool.{Bool, true, false, cond}
use Prim.Native.Nat.{ℕ, ◌≤◌, ◌<◌}
use native.Mathlib.Omega.{arith}
use borrow.Author.Tests.{lt-ltb, le-ltb}
use lib.IntN.{ℤ, pos, ◌+ℤ◌, ◌-ℤ◌}
use lib.Signed.{lt_z}
use Rattle.whole.specs.Compare.{outside}
use Rattle.whole.proofs.Parts.{up, dn, lt_yes, add_parts, sub_parts}
use Rattle.whole.proofs.Signed.{same_no}
use Rattle.bands.specs.declared.Grid.TheVariants.{Utm, Ups}
use Rattle.bands.specs.Bands.{grid_of}
use Rattle.std.proofs.Common.{Ok}
use Rattle.ranges.specs.declared.Ends.{Ends}
use Rattle.position.specs.Units.{tile_at}
use Rattle.ranges.specs.Ranges.{from_to, eastings, northings, moved, outside_of, judged, verdict}
use Rattle.ranges.specs.Edges.{lowered, point, side_of, edge, mgrs_check}
use Rattle.ranges.proofs.Reach.{Under}

module _ (ends : Ends) (x : ℤ) (w : Under ends x) where
  -- a value from the lower end on and below the upper one passes both tests of the ends moved by nothing
  passes : (below above : Bool) → lt_z x (ends.low -ℤ pos 0) ≡ below → lt_z (ends.high +ℤ pos 0) x ≡ above → cond below true above ≡ false
  unfolding up dn
  passes true above p q = absurd (omega (arith, w.from, lt_yes x (ends.low -ℤ pos 0) p, sub_parts ends.low (pos 0)))
  passes false true p q = absurd (omega (arith, w.to, lt_yes (ends.high +ℤ pos 0) x q, add_parts ends.high (pos 0)))
  passes false false p q = refl

  -- it is not out of them
  not_out : outside_of (moved (pos 0) ends) x ≡ false
  unfolding outside
  not_out = passes (lt_z x (ends.low -ℤ pos 0)) (lt_z (ends.high +ℤ pos 0) x) refl refl

  -- and not lowered
  not_lowered : lowered ends x ≡ x
  unfolding lowered
  not_lowered = rw (same_no x ends.high (λ e. omega (arith, w.to, ap up e, ap dn e)))

-- a count whose tile is one of a to b - 1 lies within a and b
in_tiles : (a b x : ℕ) → a ≤ tile_at x → tile_at x < b → Under (from_to (pos a) (pos b)) (pos x)
unfolding up dn
in_tiles a b x h g = record { from = omega arith; to = omega arith }

module _ (zone : ℤ) (north : Bool) (e n : ℤ) where
  -- what its own grid judges to be inside is inside
  inside_by : (utm : Bool) → grid_of zone ≡ cond utm Utm Ups → judged (pos 0) utm north e n ≡ Ok utm → verdict (pos 0) zone north e n ≡ Ok utm
  unfolding verdict
  inside_by true g j = rw (g, j)
  inside_by false g j = rw (g, j)

  -- a point within both ranges is left to the rule of sides
  within_both : (utm : Bool) → grid_of zone ≡ cond utm Utm Ups → Under (eastings utm north) e → Under (northings utm north) n
      → mgrs_check zone north e n ≡ Ok (cond utm (side_of north e n) (point north e n))
  unfolding mgrs_check judged edge
  within_both utm g w v =
      let i = inside_by utm g (rw (not_out (eastings utm north) e w, not_out (northings utm north) n v)) in
      rw (i, not_lowered (eastings utm north) e w, not_lowered (northings utm north) n v)

module _ (zone : ℤ) (e n : ℕ) where
  -- UTM, north of the equator
  pub north_stays : grid_of zone ≡ Utm → 1 ≤ tile_at e → tile_at e < 9 → tile_at n < 95
      → mgrs_check zone true (pos e) (pos n) ≡ Ok (point true (pos e) (pos n))
  unfolding side_of up dn
  north_stays g a b h =
      let v : Under (northings true true) (pos n) = record { from = omega arith; to = omega arith } in
      within_both zone true (pos e) (pos n) true g (in_tiles 1 9 e a b) v ∙ rw (le-ltb n 0 (omega arith))

  -- and south of it
  pub south_stays : grid_of zone ≡ Utm → 1 ≤ tile_at e → tile_at e < 9 → 10 ≤ tile_at n → tile_at n < 100
      → mgrs_check zone false (pos e) (pos n) ≡ Ok (point false (pos e) (pos n))
  unfolding side_of
  south_stays g a b h k =
      let below : n < 20000000000000 = omega arith in
      within_both zone false (pos e) (pos n) true g (in_tiles 1 9 e a b) (in_tiles 10 195 n h (omega arith))
      ∙ rw (lt-ltb n 20000000000000 below)

  -- UPS, whose ranges are the same on both axes
  pub polar_stays : (north : Bool) (a b : ℕ) → grid_of zone ≡ Ups → eastings false north ≡ from_to (pos a) (pos b)
      → a ≤ tile_at e → tile_at e < b → a ≤ tile_at n → tile_at n < b
      → mgrs_check zone north (pos e) (pos n) ≡ Ok (point north (pos e) (pos n))
  polar_stays north a b g ends h k i j =
      within_both zone north (pos e) (pos n) false g (rw ends (in_tiles a b e h k)) (rw ends (in_tiles a b n i j))
