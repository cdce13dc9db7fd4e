-- What is answered and kept of a text, by whether a buffer has room for it. Assumes nothing.
use mathlib.Core.Path.{◌≡◌, refl, sym}
use mathlib.Core.Bool.{Bool, true, false, cond}
use mathlib.Core.List.{List, ◌++◌}
use Prim.Native.Nat.{ℕ, ◌≤◌, ◌<◌}
use native.Mathlib.Omega.{arith}
use borrow.Author.Tests.{lt-ltb, le-ltb, ltb-false}
use lib.Dec.{ltb}
use lib.ListN.{length, drop}
use Rattle.whole.proofs.Parts.{clash}
use Rattle.writer.specs.Write.{fit_of, leaves_of}
use Rattle.writer.specs.Stays.{Stays}
use Rattle.std.specs.Prelude.{Ok, Err}
use Rattle.rules.specs.declared.Refusal.TheVariants.{ShortOutput}

-- a text that has room is answered by its length
pub room : (t : List ℕ) (m : ℕ) → length t ≤ m → fit_of t m ≡ Ok (length t)
unfolding fit_of
room t m h = rw (le-ltb m (length t) h)

-- and the buffer holds it, and beyond it what it held
pub held : (t l : List ℕ) → length t ≤ length l → leaves_of t l ≡ t ++ drop (length t) l
unfolding leaves_of
held t l h = rw (le-ltb (length l) (length t) h)

-- one that has none is refused by 20
pub no_room : (t : List ℕ) (m : ℕ) → m < length t → fit_of t m ≡ Err ShortOutput
unfolding fit_of
no_room t m h = rw (lt-ltb m (length t) h)

-- and the buffer stays
pub untouched : (t l : List ℕ) → length l < length t → leaves_of t l ≡ l
unfolding leaves_of
untouched t l h = rw (lt-ltb (length l) (length t) h)

-- a length that is answered is the text's, and there is room for it
fitted_by : (t : List ℕ) (m k : ℕ) (short : Bool) → ltb m (length t) ≡ short → cond short (Err ShortOutput) (Ok (length t)) ≡ Ok k → (k ≡ length t) × (k ≤ m)
fitted_by t m k true e x = clash (cc)
fitted_by t m k false e x = let s : length t ≡ k = cc in (sym s, omega (arith, ltb-false m (length t) e))

pub fitted : (t : List ℕ) (m k : ℕ) → fit_of t m ≡ Ok k → (k ≡ length t) × (k ≤ m)
unfolding fit_of
fitted t m k x = fitted_by t m k (ltb m (length t)) refl x

-- ---- a refusal alters nothing

-- where the answer and what is left are chosen by one test, it is enough that each branch alters nothing on a refusal
pub stays : {R A B : Type 0} (refused : R → A) (before : B) (t : Bool) (x y : A) (u v : B)
    → Stays refused x before u → Stays refused y before v → Stays refused (cond t x y) before (cond t u v)
stays refused before true x y u v p q = p
stays refused before false x y u v p q = q

-- so for every text, whatever the buffer
pub fit_stays : (t l : List ℕ) → Stays Err (fit_of t (length l)) l (leaves_of t l)
unfolding fit_of leaves_of
fit_stays t l = stays Err l (ltb (length l) (length t)) _ _ _ _ (λ k e. refl) (λ k e. clash (cc))
