-- Of the rows -90..94 at most one that is allowed for a band and column has a given letter; resolution answers it exactly
-- if it exists; an allowed row has its band's sign. Over every shift of the letters. Assumes nothing.
use mathlib.Core.Path.{◌≡◌, ap, sym, ◌∙◌, subst}
use mathlib.Core.Bool.{true, false}
use mathlib.Core.Logic.{◌↔◌}
use Prim.Native.Nat.{ℕ, ◌≤◌, ◌<◌}
use native.Mathlib.Omega.{arith}
use borrow.Author.Tests.{eq-eqb}
use lib.Dec.{T, eqb}
use lib.IntN.{ℤ, pos, negsuc}
use lib.Signed.{◌≤ℤ◌}
use mir.Facts.{and_yes, eqb_yes}
use Rattle.whole.proofs.Parts.{up, dn, clash, T_true, le_true}
use Rattle.std.proofs.Common.{Option, Some, None}
use Rattle.rows.specs.Allowed.{allowed, same_sign}
use Rattle.rows.specs.Letters.{letter_of}
use Rattle.rows.specs.Resolve.{means, resolve}
use Rattle.rows.proofs.Direct.{candidate, unshifted}
use Rattle.rows.proofs.Near.{allowed_placed}
use Rattle.rows.proofs.Period.{letter_lt, same_row, same_test, candidate_is, is_candidate}
use Rattle.rows.proofs.First.{first_same, first_none, first_sound, first_is}

-- a row as an answer
abbrev pub at : ℤ → Option ℤ
at r = Some r

from_means : (s : ℕ) (b : ℤ) (c l : ℕ) (r : ℤ) → means s b c l r ≡ true → (letter_of s r ≡ l) × (allowed b c r ≡ true)
from_means s b c l r e =
    let t = and_yes (eqb (letter_of s r) l) (allowed b c r) (subst T (sym e) tt) in
    (eqb_yes t.0, T_true (allowed b c r) t.1)

module _ (b : ℤ) (c : ℕ) where
  -- every allowed row is one of -90..94, and on its band's side of the equator
  pub in_rows : (r : ℤ) → allowed b c r ≡ true → (negsuc 89 ≤ℤ r) × (r ≤ℤ pos 94)
  unfolding up dn
  in_rows r e =
      let p = allowed_placed b c r e in
      let h = p.least in
      let k = p.most in
      let x = le_true (negsuc 89) r (omega arith) in
      let y = le_true r (pos 94) (omega arith) in
      (record { le = subst T (sym x) tt }, record { le = subst T (sym y) tt })

  pub own_sign : (r : ℤ) → allowed b c r ≡ true → same_sign b r ≡ true
  own_sign r e = (allowed_placed b c r e).sign

  -- at most one of them has a given letter
  pub unique : (s : ℕ) (q r : ℤ) → allowed b c q ≡ true → allowed b c r ≡ true → letter_of s q ≡ letter_of s r → q ≡ r
  unique s q r aq ar e =
      let p = allowed_placed b c q aq in
      let o = allowed_placed b c r ar in
      let p1 = p.from_base in
      let p2 = p.to_base in
      let o1 = o.from_base in
      let o2 = o.to_base in
      same_row s q r (omega arith) (omega arith) e

  module _ (s l : ℕ) where
    -- the row that is allowed and has the letter is the answer
    pub found : (r : ℤ) → allowed b c r ≡ true → letter_of s r ≡ l → resolve s b c l ≡ at r
    unfolding resolve up dn
    found r a e =
        let p = allowed_placed b c r a in
        let h = p.least in
        let k = p.most in
        first_is (means s b c l) r (rw (eq-eqb _ _ e, a))
        (λ q m. let t = from_means s b c l q m in unique s q r t.1 a (t.0 ∙ sym e))
        185 (negsuc 89) (omega arith) (omega arith)

    -- and what is answered is such a row
    pub answered : (x : ℤ) → resolve s b c l ≡ Some x → (allowed b c x ≡ true) × (letter_of s x ≡ l)
    unfolding resolve
    answered x e =
        let t = from_means s b c l x (first_sound (means s b c l) (negsuc 89) 185 x e) in
        (t.1, t.0)

    -- so a row is the answer exactly if it is allowed and has the letter
    pub exactly : (r : ℤ) → (resolve s b c l ≡ at r) ↔ ((allowed b c r ≡ true) × (letter_of s r ≡ l))
    exactly r = (answered r, λ h. found r h.0 h.1)

    -- no answer: no allowed row has the letter
    pub unanswered : resolve s b c l ≡ None → (r : ℤ) → allowed b c r ≡ true → letter_of s r ≡ l → ⊥
    unanswered n r a e =
        let k = sym (found r a e) ∙ n in
        clash (cc)

    -- nor is there one, then there is no answer
    pub nothing : ((r : ℤ) → allowed b c r ≡ true → letter_of s r ≡ l → ⊥) → resolve s b c l ≡ None
    unfolding resolve
    nothing h = first_none (means s b c l) (λ q m. let t = from_means s b c l q m in h q t.1 t.0) (negsuc 89) 185

    -- twenty and more is no letter's place
    pub no_letter : 20 ≤ l → resolve s b c l ≡ None
    no_letter h = nothing (λ r a e. let k = letter_lt s r in omega arith)

    -- a letter at a shift is another one in an odd zone
    pub shifted : l < 20 → resolve s b c l ≡ resolve 0 b c (unshifted s l)
    unfolding resolve
    shifted h = first_same (means s b c l) (means 0 b c (unshifted s l)) (λ r. rw (same_test s r l h)) (negsuc 89) 185

  -- the way the program goes: the candidate, if it is allowed
  module _ (l : ℕ) (h : l < 20) where
    pub taken : allowed b c (candidate b l) ≡ true → resolve 0 b c l ≡ at (candidate b l)
    taken a = found 0 l (candidate b l) a (candidate_is b l h).letter

    pub not_taken : allowed b c (candidate b l) ≡ false → resolve 0 b c l ≡ None
    not_taken a =
        nothing 0 l
        (λ r ar e.
        let q = is_candidate b l h r e (allowed_placed b c r ar) in
        let k : true ≡ false = sym ar ∙ ap (allowed b c) q ∙ a in
        clash (cc))
