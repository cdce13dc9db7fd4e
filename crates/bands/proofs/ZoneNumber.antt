-- What the grid of a zone says of its number. Assumes nothing.
use mathlib.Core.Path.{◌≡◌, refl}
use mathlib.Core.Bool.{Bool, true, false, cond}
use Prim.Native.Nat.{ℕ, ◌≤◌}
use native.Mathlib.Omega.{arith}
use borrow.Author.Tests.{ltb-false}
use lib.Dec.{ltb, lit≤}
use lib.IntN.{ℤ, pos, negsuc, ◌-ℤ◌}
use mir.Syntax.{w64}
use mir.Val.{SFits}
use Rattle.whole.proofs.Parts.{up, dn, clash}
use Rattle.whole.proofs.Signed.{less_fits}
use Rattle.bands.specs.declared.Grid.TheVariants.{Utm, Ups, NoZone}
use Rattle.bands.specs.Bands.{grid_of}

-- a zone number as a natural one, with its range
pub record Between (low high : ℕ) (zone : ℤ) : Type 0 where
  pub number : ℕ
  pub is : zone ≡ pos number
  pub least : low ≤ number
  pub most : number ≤ high

utm_by : (n : ℕ) (below above zero : Bool) → ltb 60 n ≡ above → ltb n 1 ≡ zero → cond below NoZone (cond above NoZone (cond zero Ups Utm)) ≡ Utm → Between 1 60 (pos n)
utm_by n true above zero p q e = clash (cc)
utm_by n false true zero p q e = clash (cc)
utm_by n false false true p q e = clash (cc)
utm_by n false false false p q e = record { number = n; is = refl; least = ltb-false n 1 q; most = ltb-false 60 n p }

pub utm_zone : (zone : ℤ) → grid_of zone ≡ Utm → Between 1 60 zone
unfolding grid_of
utm_zone (pos n) e = utm_by n (ltb n 0) (ltb 60 n) (ltb n 1) refl refl e
utm_zone (negsuc n) e = let f : NoZone ≡ Utm = e in clash (cc)

-- a UTM zone less one
pub zone_less_fits : (zone : ℤ) → SFits w64 zone → grid_of zone ≡ Utm → SFits w64 (zone -ℤ pos 1)
unfolding up dn
zone_less_fits zone f e = less_fits zone 1 f (rw (utm_zone zone e).is (omega arith)) (lit≤ tt)
