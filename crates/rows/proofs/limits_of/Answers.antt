-- `rows::limits_of` meets its contract: outside -10 to 9 there are no limits; the check finds the rest.
-- Assumes nothing.
use mathlib.Core.Path.{◌≡◌, sym}
use mathlib.Core.Bool.{true}
use native.Mathlib.Omega.{arith}
use lib.IntN.{ℤ, pos, negsuc}
use lib.Signed.{lt_z}
use mir.Facts.{to_z-of_z}
use Rattle.whole.proofs.Parts.{up, dn, lt_yes}
use Rattle.rows.specs.Limits.{limits_of, no_rows}
use Rattle.rows.proofs.Near.{past}
use Rattle.rows.proofs.limits_of.Goals as goal
use Rattle.rows.proofs.limits_of.Goals.{then-band-ltminus10-via-then-band-ltminus10, then-band-ltminus10-via-else-band-ltminus10+then-band-gt9}

below : (b : ℤ) → lt_z b (negsuc 9) ≡ true → no_rows ≡ limits_of b
unfolding up dn
below (pos n) t = absurd (omega (arith, lt_yes (pos n) (negsuc 9) t))
below (negsuc n) t = let h = lt_yes (negsuc n) (negsuc 9) t in sym (past n (omega arith)).1

above : (b : ℤ) → lt_z (pos 9) b ≡ true → no_rows ≡ limits_of b
unfolding up dn
above (pos n) t = let h = lt_yes (pos 9) (pos n) t in sym (past n (omega arith)).0
above (negsuc n) t = absurd (omega (arith, lt_yes (pos 9) (negsuc n) t))

pub returns-then-band-ltminus10 : goal.returns-then-band-ltminus10
returns-then-band-ltminus10 c =
    elim c.then-band-ltminus10.branch [
      | then-band-ltminus10-via-then-band-ltminus10 w ↦ below c.args.band (rw (to_z-of_z c.ranges.band) at w.if-band-ltminus10.true)
      | then-band-ltminus10-via-else-band-ltminus10+then-band-gt9 w ↦ above c.args.band (rw (to_z-of_z c.ranges.band) at w.if-band-gt9.true)
    ]
