-- The search for the first row that passes a test. Assumes nothing.
use mathlib.Core.Path.{◌≡◌, refl, ap, sym, ◌∙◌}
use mathlib.Core.Bool.{Bool, true, false, cond}
use Prim.Native.Nat.{ℕ, zero, suc, ◌+◌, ◌≤◌, ◌<◌}
use native.Mathlib.Omega.{arith}
use lib.IntN.{ℤ, suc_ℤ}
use Rattle.whole.proofs.Parts.{up, dn, clash, eq_by, suc_parts}
use Rattle.std.proofs.Common.{Option, Some, None}
use Rattle.rows.specs.Resolve.{first_row}

-- two tests that agree find the same row
pub first_same : (f g : ℤ → Bool) → ((r : ℤ) → f r ≡ g r) → (r : ℤ) (n : ℕ) → first_row f r n ≡ first_row g r n
unfolding first_row
first_same f g h r zero = refl
first_same f g h r (suc n) = rw (h r, first_same f g h (suc_ℤ r) n)

module _ (f : ℤ → Bool) where
  -- nothing passes, nothing is found
  none_by : (r : ℤ) (later : Option ℤ) (t : Bool) → f r ≡ t → ((q : ℤ) → f q ≡ true → ⊥) → later ≡ None → cond t (Some r) later ≡ None
  none_by r later true e h k = absurd (h r e)
  none_by r later false e h k = k

  pub first_none : ((q : ℤ) → f q ≡ true → ⊥) → (r : ℤ) (n : ℕ) → first_row f r n ≡ None
  unfolding first_row
  first_none h r zero = refl
  first_none h r (suc n) = none_by r (first_row f (suc_ℤ r) n) (f r) refl h (first_none h (suc_ℤ r) n)

  -- what is found passes
  sound_by : (r : ℤ) (later : Option ℤ) (t : Bool) → f r ≡ t → (x : ℤ) → (later ≡ Some x → f x ≡ true) → cond t (Some r) later ≡ Some x → f x ≡ true
  sound_by r later true e x k h = let q : r ≡ x = cc in ap f (sym q) ∙ e
  sound_by r later false e x k h = k h

  pub first_sound : (r : ℤ) (n : ℕ) (x : ℤ) → first_row f r n ≡ Some x → f x ≡ true
  unfolding first_row
  first_sound r zero x e = clash (cc)
  first_sound r (suc n) x e = sound_by r (first_row f (suc_ℤ r) n) (f r) refl x (first_sound (suc_ℤ r) n x) e

  -- the only row that passes is found where it is among those tried
  module _ (x : ℤ) (p : f x ≡ true) (only : (q : ℤ) → f q ≡ true → q ≡ x) where
    is_by : (r : ℤ) (later : Option ℤ) (t : Bool) → f r ≡ t → ((r ≡ x → ⊥) → later ≡ Some x) → cond t (Some r) later ≡ Some x
    is_by r later true e k = ap (λ (q : ℤ). Some q) (only r e)
    is_by r later false e k = k (λ q. let z : true ≡ false = sym p ∙ ap f (sym q) ∙ e in clash (cc))

    after : (r : ℤ) → up r + dn x ≤ dn r + up x → (r ≡ x → ⊥) → up (suc_ℤ r) + dn x ≤ dn (suc_ℤ r) + up x
    after r h d =
        let s = suc_parts r in
        let ne : up r + dn x ≡ dn r + up x → ⊥ = λ e. d (eq_by r x (omega arith)) in
        omega arith

    pub first_is : (n : ℕ) (r : ℤ) → up r + dn x ≤ dn r + up x → up x + dn r < dn x + up r + n → first_row f r n ≡ Some x
    unfolding first_row
    first_is zero r h k = absurd (omega arith)
    first_is (suc n) r h k =
        let s = suc_parts r in
        is_by r (first_row f (suc_ℤ r) n) (f r) refl (λ d. first_is n (suc_ℤ r) (after r h d) (omega arith))
