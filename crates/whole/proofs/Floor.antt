-- What rounding down means, and the parts of a quotient, for a divisor above 0. Assumes nothing.
use mathlib.Core.Path.{◌≡◌, sym, ap}
use mathlib.Core.Bool.{true, false}
use Prim.Native.Nat.{ℕ, suc, ◌+◌, ◌-◌, ◌*◌, ◌/◌, ◌%◌, ◌<◌}
use native.Mathlib.Nat.{zero-div, suc-mul, add-div_right, div-eq_of_lt, mod-lt, div-add-mod'}
use native.Mathlib.Omega.{arith}
use borrow.Author.Tests.{eq-eqb, ne_eqb}
use lib.IntN.{ℤ, pos, negsuc, ◌+ℤ◌, ◌*ℤ◌}
use lib.Signed.{lt_z}
use Rattle.whole.specs.Floor.{fold, floor_div, floor_mod}
use Rattle.whole.proofs.Parts.{up, dn, eq_by, add_parts, up_mul, dn_mul, lt_yes, lt_no}

-- a divisor of 0 gives 0
pub by_zero : (z : ℤ) (d : ℕ) → d ≡ 0 → (floor_div z d ≡ pos 0) × (floor_mod z d ≡ 0)
unfolding floor_div floor_mod
by_zero (pos n) d e = (rw (eq-eqb d 0 e), rw (eq-eqb d 0 e))
by_zero (negsuc n) d e = (rw (eq-eqb d 0 e), rw (eq-eqb d 0 e))

-- the definitions without their test of the divisor
module _ (n : ℕ) {d : ℕ} (h : 0 < d) where
  pub div_pos : floor_div (pos n) d ≡ pos (n / d)
  unfolding floor_div
  div_pos = rw (ne_eqb d 0 (λ e. omega arith))

  pub div_neg : floor_div (negsuc n) d ≡ negsuc (n / d)
  unfolding floor_div
  div_neg = rw (ne_eqb d 0 (λ e. omega arith))

  pub mod_pos : floor_mod (pos n) d ≡ n % d
  unfolding floor_mod
  mod_pos = rw (ne_eqb d 0 (λ e. omega arith))

  pub mod_neg : floor_mod (negsuc n) d ≡ d - 1 - n % d
  unfolding floor_mod
  mod_neg = rw (ne_eqb d 0 (λ e. omega arith))

-- parts of the quotient, and the remainder's range
pub up_floor : (z : ℤ) {d : ℕ} → 0 < d → up (floor_div z d) ≡ up z / d
unfolding up
up_floor (pos n) h = rw (div_pos n h)
up_floor (negsuc n) {d} h = rw (div_neg n h) (sym (zero-div d))

pub dn_floor : (z : ℤ) {d : ℕ} → 0 < d → dn (floor_div z d) ≡ (dn z + (d - 1)) / d
unfolding dn
dn_floor (pos n) {d} h = rw (div_pos n h) (sym (div-eq_of_lt (omega arith)))
dn_floor (negsuc n) {d} h =
    let e : suc n + (d - 1) ≡ n + d = omega arith in
    let s : (n + d) / d ≡ n / d + 1 = add-div_right n h in
    rw (div_neg n h, e) (omega arith)

pub floor_mod_lt : (z : ℤ) {d : ℕ} → 0 < d → floor_mod z d < d
floor_mod_lt (pos n) h = rw (mod_pos n h) (mod-lt n h)
floor_mod_lt (negsuc n) h = rw (mod_neg n h) (omega arith)

-- z is d times the quotient and the remainder
pub floor_is : (z : ℤ) {d : ℕ} → 0 < d → floor_div z d *ℤ pos d +ℤ pos (floor_mod z d) ≡ z
unfolding up dn
floor_is (pos n) {d} h = rw (div_pos n h, mod_pos n h) (ap pos (div-add-mod' n d))
floor_is (negsuc n) {d} h =
    rw (div_neg n h, mod_neg n h)
    (eq_by _ _
    (omega (
      arith,
      add_parts (negsuc (n / d) *ℤ pos d) (pos (d - 1 - n % d)),
      up_mul (negsuc (n / d)) d,
      dn_mul (negsuc (n / d)) d,
      div-add-mod' n d,
      suc-mul (n / d) d,
      mod-lt n h,
    )))

-- the same in parts: with a numeral for d, `omega` reckons with remainders by this law and `floor_mod_lt`
pub mod_parts : (z : ℤ) (d : ℕ) → 0 < d → up z + dn (floor_div z d) * d ≡ dn z + (up (floor_div z d) * d + floor_mod z d)
unfolding up dn
mod_parts z d h =
    let q = floor_div z d in
    let s = rw (floor_is z h) at (add_parts (q *ℤ pos d) (pos (floor_mod z d))) in
    omega (arith, up_mul q d, dn_mul q d)

-- by the sign of z, from what division of `fold z` gives
pub below : (z : ℤ) {d : ℕ} → 0 < d → lt_z z (pos 0) ≡ true → (floor_div z d ≡ negsuc (fold z / d)) × (floor_mod z d ≡ d - 1 - fold z % d)
unfolding up dn
below (pos n) h t = absurd (omega (arith, lt_yes (pos n) (pos 0) t))
below (negsuc n) h t = (div_neg n h, mod_neg n h)

pub above : (z : ℤ) {d : ℕ} → 0 < d → lt_z z (pos 0) ≡ false → (floor_div z d ≡ pos (fold z / d)) × (floor_mod z d ≡ fold z % d)
unfolding up dn
above (negsuc n) h t = absurd (omega (arith, lt_no (negsuc n) (pos 0) t))
above (pos n) h t = (div_pos n h, mod_pos n h)
