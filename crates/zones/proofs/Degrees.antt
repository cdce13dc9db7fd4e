-- Degrees are small numbers, so that the sums fit. Assumes nothing.
use native.Mathlib.Omega.{arith}
use lib.Dec.{lit<, lit≤}
use lib.IntN.{ℤ, pos, negsuc, ◌+ℤ◌, ◌-ℤ◌}
use lib.Signed.{◌≤ℤ◌}
use mir.Syntax.{w64}
use mir.Val.{SFits}
use Rattle.whole.specs.Floor.{floor_mod}
use Rattle.whole.proofs.Parts.{up, dn, sfits_up, sfits_dn, sub_parts}
use Rattle.whole.proofs.Floor.{up_floor, dn_floor, floor_mod_lt}
use Rattle.whole.proofs.Small.{Small, fits, computed, between, sum, at_least, at_most}
use Rattle.zones.specs.Zones.{degrees, turned}

-- degrees of a 64-bit count
degrees_small : (x : ℤ) → SFits w64 x → Small 10000000000 (degrees x)
unfolding degrees
degrees_small x f =
    let u = up_floor x {d = 1000000000} (lit< tt) in
    let v = dn_floor x {d = 1000000000} (lit< tt) in
    let a = sfits_up w64 x f in
    let b = sfits_dn w64 x f in
    record { least = omega arith; most = omega arith }

pub sum_fits : (x : ℤ) → SFits w64 x → SFits w64 (degrees x +ℤ pos 180)
sum_fits x f = fits (sum (degrees x) (pos 180) (degrees_small x f) (computed 180 (pos 180) tt)) (lit≤ tt)

-- turned degrees lie in -180..179
abbrev pub Turned : ℤ → Type 0
Turned d = (negsuc 179 ≤ℤ d) × (d ≤ℤ pos 179)

pub turned_range : (d : ℤ) → Turned (turned d)
unfolding turned up dn
turned_range d =
    let z = d +ℤ pos 180 in
    let s = sub_parts (pos (floor_mod z 360)) (pos 180) in
    let h = floor_mod_lt z {d = 360} (lit< tt) in
    (at_least 179 (pos (floor_mod z 360) -ℤ pos 180) (omega arith), at_most 179 (pos (floor_mod z 360) -ℤ pos 180) (omega arith))

module _ (d : ℤ) (h : Turned d) where
  small : Small 180 d
  small = between (negsuc 179) (pos 179) d (computed _ _ tt) (computed _ _ tt) h

  pub turned_fits : SFits w64 d
  turned_fits = fits small (lit≤ tt)
