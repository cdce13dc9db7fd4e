-- A table's rule, proved at all of its rows by one equation of lists, which antt computes: the table is the list of f's values from 0 on.
-- It holds for rows of any type. Assumes nothing.
use mathlib.Core.Path.{◌≡◌, refl, ap, sym, ◌∙◌}
use mathlib.Core.List.{List, [], ◌∷◌}
use Prim.Native.Nat.{ℕ, zero, suc, ◌+◌, ◌<◌}
use native.Mathlib.Nat.{add-zero, zero-add, suc-add, add-suc, le_of_suc-le-suc, not-suc-le-zero}
use mathlib.Core.Bool.{Bool, true, false}
use lib.Dec.{T}
use lib.ListN.{get_or}

-- f i, f (i + 1), .., n values
abbrev pub values : {A : Type 0} → (ℕ → A) → ℕ → ℕ → List A
values f i zero = []
values f i (suc n) = f i ∷ values f (suc i) n

from : {A : Type 0} (f : ℕ → A) (i n : ℕ) (d : A) (k : ℕ) → k < n → get_or (values f i n) k d ≡ f (i + k)
from f i zero d k h = absurd (not-suc-le-zero h)
from f i (suc n) d zero h = ap f (sym (add-zero i))
from f i (suc n) d (suc k) h = from f (suc i) n d k (le_of_suc-le-suc h) ∙ ap f (suc-add i k ∙ sym (add-suc i k))

pub row : {A : Type 0} (f : ℕ → A) (xs : List A) (n : ℕ) → xs ≡ values f 0 n → (d : A) (k : ℕ) → k < n → get_or xs k d ≡ f k
row f xs n e d k h = rw e (from f 0 n d k h ∙ ap f (zero-add k))

-- two rules with the same list of values agree at each of its places
pub alike : {A : Type 0} (f g : ℕ → A) (n : ℕ) → values f 0 n ≡ values g 0 n → (d : A) (k : ℕ) → k < n → f k ≡ g k
alike f g n e d k h = sym (row f (values g 0 n) n (sym e) d k h) ∙ row g (values g 0 n) n refl d k h

-- a test that holds at each number below n, in one computation; for several indexes, a test of tests
abbrev pub all : ℕ → (ℕ → Bool) → Bool
all zero f = true
all (suc n) f = elim (f 0) [ true ↦ all n (λ k. f (suc k)) | false ↦ false ]

first_of : (a b : Bool) → T (elim a [ true ↦ b | false ↦ false ]) → T a
first_of true b t = tt
first_of false b t = t

second_of : (a b : Bool) → T (elim a [ true ↦ b | false ↦ false ]) → T b
second_of true b t = t
second_of false b t = absurd t

pub each : (n : ℕ) (f : ℕ → Bool) → T (all n f) → (k : ℕ) → k < n → T (f k)
each zero f t k h = absurd (not-suc-le-zero h)
each (suc n) f t zero h = first_of (f 0) (all n (λ k. f (suc k))) t
each (suc n) f t (suc k) h = each n (λ k. f (suc k)) (second_of (f 0) (all n (λ k. f (suc k))) t) k (le_of_suc-le-suc h)

-- a test that every element of a list passes
abbrev pub every : {A : Type 0} → (A → Bool) → List A → Bool
every f [] = true
every f (x ∷ xs) = elim (f x) [ true ↦ every f xs | false ↦ false ]

pub every_head : {A : Type 0} (f : A → Bool) (x : A) (xs : List A) → T (every f (x ∷ xs)) → T (f x)
every_head f x xs t = first_of (f x) (every f xs) t

pub every_tail : {A : Type 0} (f : A → Bool) (x : A) (xs : List A) → T (every f (x ∷ xs)) → T (every f xs)
every_tail f x xs t = second_of (f x) (every f xs) t
