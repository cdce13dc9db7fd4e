-- A signed 64-bit number: read back from its bits, compared, and taken as a count. Assumes nothing.
use mathlib.Core.Path.{◌≡◌, refl, sym, ap, subst, ◌∙◌}
use Prim.Native.Nat.{ℕ, ◌^◌, ◌≤◌, ◌<◌}
use native.Mathlib.Omega.{arith}
use borrow.Author.Tests.{eq-eqb, eqb-true}
use lib.Dec.{T}
use mathlib.Core.Bool.{Bool, true, false}
use lib.IntN.{ℤ, pos, negsuc, ◌-ℤ◌}
use lib.Signed.{mag}
use mir.Syntax.{w64}
use mir.Val.{SFits, to_z, of_z}
use mir.Facts.{to_z-of_z}
use Rattle.whole.specs.Compare.{is_number, same}
use Rattle.whole.proofs.Parts.{up, dn, sub_parts, sfits_by, sfits_up}

-- what a call gave is read back as what it ensures
pub back : (z v : ℤ) → mag z < 2 ^ 63 → z ≡ v → to_z w64 (of_z w64 z) ≡ v
back z v ok e = to_z-of_z {w = w64} (record { sfits = ok }) ∙ e

-- `==` of two signed numbers compares their bits
pub is : (z : ℤ) (n : ℕ) → SFits w64 z → n < 2 ^ 63 → of_z w64 z ≡ n → is_number z n ≡ true
is (pos a) n f h e = eq-eqb a n e
is (negsuc a) n f h e = absurd (omega (arith, f.sfits))

pub same→eq : (a b : ℤ) → same a b ≡ true → a ≡ b
same→eq (pos a) (pos b) e = ap pos (eqb-true a b e)
same→eq (pos a) (negsuc b) e = absurd (subst T (sym e) tt)
same→eq (negsuc a) (pos b) e = absurd (subst T (sym e) tt)
same→eq (negsuc a) (negsuc b) e = ap negsuc (eqb-true a b e)

pub same_yes : (a b : ℤ) → a ≡ b → same a b ≡ true
same_yes (pos a) b e = rw (← e, eq-eqb a a refl)
same_yes (negsuc a) b e = rw (← e, eq-eqb a a refl)

same_by : (a b : ℤ) (t : Bool) → same a b ≡ t → (a ≡ b → ⊥) → t ≡ false
same_by a b true e h = absurd (h (same→eq a b e))
same_by a b false e h = refl

pub same_no : (a b : ℤ) → (a ≡ b → ⊥) → same a b ≡ false
same_no a b h = same_by a b (same a b) refl h

-- a number not below 0 is the count above 0
pub is_count : (z : ℤ) → dn z ≤ up z → z ≡ pos (up z)
unfolding up dn
is_count (pos n) h = refl
is_count (negsuc n) h = absurd (omega arith)

-- a number not below 0 less a count fits
pub less_fits : (z : ℤ) (k : ℕ) → SFits w64 z → dn z ≤ up z → k ≤ 2 ^ 63 → SFits w64 (z -ℤ pos k)
unfolding up dn
less_fits z k f h g =
    let s = sub_parts z (pos k) in
    let u = sfits_up w64 z f in
    sfits_by w64 (z -ℤ pos k) (omega arith) (omega arith)
