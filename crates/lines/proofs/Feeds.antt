-- What a search for a byte answers, as the place of the first one. Assumes nothing.
use mathlib.Core.Path.{◌≡◌, refl, ap}
use mathlib.Core.List.{List, [], ◌∷◌}
use Prim.Native.Nat.{ℕ, zero, suc, ◌<◌}
use native.Mathlib.Omega.{arith}
use borrow.Author.Tests.{eq-eqb, ne_eqb, eqb-true}
use lib.ListN.{length, get_or}
use Rattle.std.specs.Prelude.{Some, None}
use Rattle.memchr.specs.Find.{IsFirstByte, is_byte}
use Rattle.lines.specs.inner.Feeds.{index_of}

pub index_found : (b : ℕ) (s : List ℕ) (k : ℕ) → k < length s → get_or s k 0 ≡ b → ((j : ℕ) → j < k → get_or s j 0 ≡ b → ⊥) → index_of b s ≡ k
unfolding index_of
index_found b [] k h e n = absurd (omega arith)
index_found b (x ∷ s) zero h e n = rw (eq-eqb x b e)
index_found b (x ∷ s) (suc k) h e n = rw (ne_eqb x b (n 0 (omega arith))) (ap suc (index_found b s k (omega arith) e (λ j l. n (suc j) (omega arith))))

pub index_none : (b : ℕ) (s : List ℕ) → ((j : ℕ) → j < length s → get_or s j 0 ≡ b → ⊥) → index_of b s ≡ length s
unfolding index_of
index_none b [] n = refl
index_none b (x ∷ s) n = rw (ne_eqb x b (n 0 (omega arith))) (ap suc (index_none b s (λ j l. n (suc j) (omega arith))))

-- by the words of the search
pub first_is : (b : ℕ) (s : List ℕ) (k : ℕ) → IsFirstByte (is_byte b) s (Some k) → (index_of b s ≡ k) × (k < length s)
first_is b s k h = (index_found b s k h.0.high (eqb-true _ _ h.1) (λ j l e. h.0.before j (omega arith) l (eq-eqb _ _ e)), h.0.high)

pub none_is : (b : ℕ) (s : List ℕ) → IsFirstByte (is_byte b) s None → index_of b s ≡ length s
none_is b s h = index_none b s (λ j l e. h j (omega arith) l (eq-eqb _ _ e))
