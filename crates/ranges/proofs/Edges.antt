-- What a point in range is after its upper ends are lowered. Assumes nothing.
use mathlib.Core.Path.{◌≡◌, refl, ◌∙◌, subst}
use mathlib.Core.Bool.{Bool, true, false, cond}
use Prim.Native.Nat.{◌+◌, ◌≤◌}
use native.Mathlib.Omega.{arith}
use lib.Dec.{T}
use lib.IntN.{ℤ, pos, negsuc, ◌+ℤ◌, ◌-ℤ◌}
use lib.Signed.{lt_z, ◌≤ℤ◌}
use Rattle.whole.specs.Compare.{same, outside}
use Rattle.whole.proofs.Parts.{up, dn, clash, lt_no, add_parts, sub_parts, ≤ℤ-parts}
use Rattle.whole.proofs.Signed.{same→eq}
use Rattle.whole.proofs.Small.{at_least, at_most}
use Rattle.std.proofs.Common.{Ok, Err}
use Rattle.rules.specs.declared.Refusal.TheVariants.{NoSuchZone, EastingOut, NorthingOut}
use Rattle.ranges.specs.declared.Ends.{Ends}
use Rattle.bands.specs.declared.Grid.{Grid}
use Rattle.bands.specs.declared.Grid.TheVariants.{Utm, Ups, NoZone}
use Rattle.bands.specs.Bands.{grid_of, by_grid}
use Rattle.position.specs.Units.{tiles}
use Rattle.ranges.specs.Ranges.{eastings, northings, moved, outside_of, judged, verdict}
use Rattle.ranges.specs.Edges.{lowered}

-- not out of the ends moved by nothing: between the two
pub record Between (ends : Ends) (x : ℤ) : Type 0 where
  pub from : up ends.low + dn x ≤ up x + dn ends.low
  pub to : up x + dn ends.high ≤ up ends.high + dn x

lies_by : (ends : Ends) (x : ℤ) (below above : Bool) → lt_z x (ends.low -ℤ pos 0) ≡ below → lt_z (ends.high +ℤ pos 0) x ≡ above → cond below true above ≡ false → Between ends x
unfolding up dn
lies_by ends x true above p q e = absurd (subst T e tt)
lies_by ends x false above p q e =
    let a = lt_no x (ends.low -ℤ pos 0) p in
    let b = lt_no (ends.high +ℤ pos 0) x (q ∙ e) in
    let s = sub_parts ends.low (pos 0) in
    let t = add_parts ends.high (pos 0) in
    record { from = omega arith; to = omega arith }

lies : (ends : Ends) (x : ℤ) → outside_of (moved (pos 0) ends) x ≡ false → Between ends x
unfolding outside
lies ends x e = lies_by ends x (lt_z x (ends.low -ℤ pos 0)) (lt_z (ends.high +ℤ pos 0) x) refl refl e

module _ (utm north : Bool) (e n : ℤ) where
  both_by : (a b : Bool) → cond a (Err EastingOut) (cond b (Err NorthingOut) (Ok utm)) ≡ Ok utm → (a ≡ false) × (b ≡ false)
  both_by true b h = clash (cc)
  both_by false true h = clash (cc)
  both_by false false h = (refl, refl)

  -- a point that is judged to be inside lies between the ends on both axes
  pub inside : judged (pos 0) utm north e n ≡ Ok utm → Between (eastings utm north) e × Between (northings utm north) n
  unfolding judged
  inside h =
      let s = both_by (outside_of (moved (pos 0) (eastings utm north)) e) (outside_of (moved (pos 0) (northings utm north)) n) h in
      (lies (eastings utm north) e s.0, lies (northings utm north) n s.1)

  -- what is inside is inside its own grid
  own_by : (t a b : Bool) → cond a (Err EastingOut) (cond b (Err NorthingOut) (Ok t)) ≡ Ok utm → t ≡ utm
  own_by t true b h = clash (cc)
  own_by t false true h = clash (cc)
  own_by t false false h = cc

  own : (t : Bool) → judged (pos 0) t north e n ≡ Ok utm → judged (pos 0) utm north e n ≡ Ok utm
  unfolding judged
  own t h =
      let k = own_by t (outside_of (moved (pos 0) (eastings t north)) e) (outside_of (moved (pos 0) (northings t north)) n) h in
      subst (λ (u : Bool). judged (pos 0) u north e n ≡ Ok utm) k h

  by_grid_lem : (g : Grid) → by_grid g (judged (pos 0) true north e n) (judged (pos 0) false north e n) (Err NoSuchZone) ≡ Ok utm → judged (pos 0) utm north e n ≡ Ok utm
  by_grid_lem Utm h = own true h
  by_grid_lem Ups h = own false h
  by_grid_lem NoZone h = clash (cc)

  pub own_grid : (zone : ℤ) → verdict (pos 0) zone north e n ≡ Ok utm → judged (pos 0) utm north e n ≡ Ok utm
  unfolding verdict
  own_grid zone h = by_grid_lem (grid_of zone) h

-- a UTM northing between its ends lies between -90 and 195 tiles, and so does it lowered
abbrev pub Wide : ℤ → Type 0
Wide n = (tiles (negsuc 89) ≤ℤ n) × (n ≤ℤ tiles (pos 195))

wide : (north : Bool) (n : ℤ) → Between (northings true north) n → (dn n ≤ up n + 18000000000000) × (up n ≤ dn n + 39000000000000)
unfolding up dn
wide true n b = let h = b.from in let k = b.to in (omega arith, omega arith)
wide false n b = let h = b.from in let k = b.to in (omega arith, omega arith)

lowered_by : (x high : ℤ) (t : Bool) → same x high ≡ t → pos 0 ≤ℤ high → (dn x ≤ up x + 18000000000000) × (up x ≤ dn x + 39000000000000) → Wide (cond t (x -ℤ pos 1) x)
unfolding up dn
lowered_by x high true e g (h, k) =
    let a = rw (← same→eq x high e) at (≤ℤ-parts (pos 0) high g) in
    let s = sub_parts x (pos 1) in
    (at_least 17999999999999 (x -ℤ pos 1) (omega arith), at_most 39000000000000 (x -ℤ pos 1) (omega arith))
lowered_by x high false e g (h, k) = (at_least 17999999999999 x h, at_most 39000000000000 x k)

above : (north : Bool) → pos 0 ≤ℤ (northings true north).high
above true = record { le = tt }
above false = record { le = tt }

pub lowered_wide : (north : Bool) (n : ℤ) → Between (northings true north) n → Wide (lowered (northings true north) n)
unfolding lowered
lowered_wide north n b =
    let high = (northings true north).high in
    lowered_by n high (same n high) refl (above north) (wide north n b)
