-- A signed number by its parts above and below zero, both natural numbers, so that `omega` proves what is linear:
-- z is up z - dn z, and one of the two is 0. Each law below turns an operation or a test of ℤ into facts on these parts.
-- Assumes nothing.
use mathlib.Core.Path.{◌≡◌, refl, sym, ap, ◌∙◌, subst}
use mathlib.Core.Bool.{Bool, true, false, cond}
use Prim.Native.Nat.{ℕ, zero, suc, ◌+◌, ◌-◌, ◌*◌, ◌^◌, ◌≤◌, ◌<◌}
use native.Mathlib.Nat.{zero-mul}
use native.Mathlib.Omega.{arith}
use lib.Dec.{T, ltb}
use lib.IntN.{ℤ, pos, negsuc, suc_ℤ, neg_ℤ, nat_abs, ◌+ℤ◌, ◌-ℤ◌, ◌*ℤ◌}
use lib.Signed.{◌≤ℤ◌, lt_z, le_z}
use borrow.Author.Tests.{ltb-true, ltb-false, leb-true, leb-false}
use mir.Syntax.{Width}
use mir.Val.{SFits, hbits}

unfoldable pub up : ℤ → ℕ
up (pos n) = n
up (negsuc n) = 0

unfoldable pub dn : ℤ → ℕ
dn (pos n) = 0
dn (negsuc n) = suc n

-- what equates two constructors proves anything: `clash (cc)`, since `cc` then proves 0 ≡ 1
pub clash : {X : Type 0} → ◌≡◌ {A = ℕ} 0 1 → X
clash e = absurd (omega arith)

pub T_true : (t : Bool) → T t → t ≡ true
T_true true h = refl
T_true false h = absurd h

-- equality and order
pub eq_by : (a b : ℤ) → up a + dn b ≡ up b + dn a → a ≡ b
unfolding up dn
eq_by (pos a) (pos b) e = ap pos (omega arith)
eq_by (pos a) (negsuc b) e = absurd (omega arith)
eq_by (negsuc a) (pos b) e = absurd (omega arith)
eq_by (negsuc a) (negsuc b) e = ap negsuc (omega arith)

pub lt_yes : (a b : ℤ) → lt_z a b ≡ true → up a + dn b < up b + dn a
unfolding up dn
lt_yes (pos a) (pos b) e = omega (arith, ltb-true a b e)
lt_yes (pos a) (negsuc b) e = absurd (subst T (sym e) tt)
lt_yes (negsuc a) (pos b) e = omega arith
lt_yes (negsuc a) (negsuc b) e = omega (arith, ltb-true b a e)

pub lt_no : (a b : ℤ) → lt_z a b ≡ false → up b + dn a ≤ up a + dn b
unfolding up dn
lt_no (pos a) (pos b) e = omega (arith, ltb-false a b e)
lt_no (pos a) (negsuc b) e = omega arith
lt_no (negsuc a) (pos b) e = absurd (subst T e tt)
lt_no (negsuc a) (negsuc b) e = omega (arith, ltb-false b a e)

pub le_yes : (a b : ℤ) → le_z a b ≡ true → up a + dn b ≤ up b + dn a
unfolding up dn
le_yes (pos a) (pos b) e = omega (arith, leb-true a b e)
le_yes (pos a) (negsuc b) e = absurd (subst T (sym e) tt)
le_yes (negsuc a) (pos b) e = omega arith
le_yes (negsuc a) (negsuc b) e = omega (arith, leb-true b a e)

pub le_no : (a b : ℤ) → le_z a b ≡ false → up b + dn a < up a + dn b
unfolding up dn
le_no (pos a) (pos b) e = omega (arith, leb-false a b e)
le_no (pos a) (negsuc b) e = omega arith
le_no (negsuc a) (pos b) e = absurd (subst T e tt)
le_no (negsuc a) (negsuc b) e = omega (arith, leb-false b a e)

-- ranges
pub sfits_by : (w : Width) (z : ℤ) → up z < 2 ^ hbits w + dn z → dn z ≤ 2 ^ hbits w + up z → SFits w z
unfolding up dn
sfits_by w (pos n) h k = record { sfits = omega arith }
sfits_by w (negsuc n) h k = record { sfits = omega arith }

pub sfits_up : (w : Width) (z : ℤ) → SFits w z → up z < 2 ^ hbits w
unfolding up
sfits_up w (pos n) f = f.sfits
sfits_up w (negsuc n) f = omega (arith, f.sfits)

pub sfits_dn : (w : Width) (z : ℤ) → SFits w z → dn z ≤ 2 ^ hbits w
unfolding dn
sfits_dn w (pos n) f = omega arith
sfits_dn w (negsuc n) f = f.sfits

-- operations
sub_by : (a b : ℕ) (t : Bool) → ltb a b ≡ t → up (cond t (negsuc (b - suc a)) (pos (a - b))) + b ≡ dn (cond t (negsuc (b - suc a)) (pos (a - b))) + a
unfolding up dn
sub_by a b true e = omega (arith, ltb-true a b e)
sub_by a b false e = omega (arith, ltb-false a b e)

pub add_parts : (a b : ℤ) → up (a +ℤ b) + (dn a + dn b) ≡ dn (a +ℤ b) + (up a + up b)
unfolding up dn
add_parts (pos a) (pos b) = omega arith
add_parts (pos a) (negsuc b) = omega (arith, sub_by a (suc b) (ltb a (suc b)) refl)
add_parts (negsuc a) (pos b) = omega (arith, sub_by b (suc a) (ltb b (suc a)) refl)
add_parts (negsuc a) (negsuc b) = omega arith

pub suc_parts : (a : ℤ) → up (suc_ℤ a) + dn a ≡ dn (suc_ℤ a) + up a + 1
unfolding up dn
suc_parts (pos n) = omega arith
suc_parts (negsuc zero) = omega arith
suc_parts (negsuc (suc n)) = omega arith

pub up_neg : (a : ℤ) → up (neg_ℤ a) ≡ dn a
unfolding up dn
up_neg (pos zero) = refl
up_neg (pos (suc n)) = refl
up_neg (negsuc n) = refl

pub dn_neg : (a : ℤ) → dn (neg_ℤ a) ≡ up a
unfolding up dn
dn_neg (pos zero) = refl
dn_neg (pos (suc n)) = refl
dn_neg (negsuc n) = refl

pub sub_parts : (a b : ℤ) → up (a -ℤ b) + (dn a + up b) ≡ dn (a -ℤ b) + (up a + dn b)
sub_parts a b = omega (arith, add_parts a (neg_ℤ b), up_neg b, dn_neg b)

pub up_mul : (a : ℤ) (k : ℕ) → up (a *ℤ pos k) ≡ up a * k
unfolding up dn
up_mul (pos a) k = refl
up_mul (negsuc a) k = up_neg (pos (suc a * k)) ∙ sym (zero-mul k)

pub dn_mul : (a : ℤ) (k : ℕ) → dn (a *ℤ pos k) ≡ dn a * k
unfolding up dn
dn_mul (pos a) k = sym (zero-mul k)
dn_mul (negsuc a) k = dn_neg (pos (suc a * k))

-- as a natural number
pub abs_parts : (z : ℤ) → nat_abs z ≡ up z + dn z
unfolding up dn
abs_parts (pos n) = omega arith
abs_parts (negsuc n) = omega arith

-- the test's value, from the parts, and a range in a contract
module _ (a b : ℤ) where
  le_true_at : (t : Bool) → le_z a b ≡ t → up a + dn b ≤ up b + dn a → le_z a b ≡ true
  le_true_at true e h = e
  le_true_at false e h = absurd (omega (arith, le_no a b e))

  pub le_true : up a + dn b ≤ up b + dn a → le_z a b ≡ true
  le_true h = le_true_at (le_z a b) refl h

  pub le_of : T (le_z a b) → up a + dn b ≤ up b + dn a
  le_of t = le_yes a b (T_true (le_z a b) t)

  pub ≤ℤ-parts : a ≤ℤ b → up a + dn b ≤ up b + dn a
  ≤ℤ-parts h = le_of h.le
