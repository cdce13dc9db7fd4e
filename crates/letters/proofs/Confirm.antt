-- One law for all letter sets: a guess that is right of the set's own letters finds every place, since the set decides.
-- Assumes nothing.
use mathlib.Core.Path.{◌≡◌, refl, ap, sym, ◌∙◌}
use mathlib.Core.Bool.{Bool, true, false, cond}
use Prim.Native.Nat.{ℕ, ◌<◌}
use mathlib.Core.List.{List}
use lib.ListN.{length, get_or}
use borrow.Author.Tests.{eq-eqb, eqb-true, lt-leb, leb-false}
use lib.Dec.{T, eqb, leb, eqb→eq}
use Rattle.whole.proofs.Parts.{clash}
use Rattle.whole.proofs.Table.{all, each}
use Rattle.letters.specs.Letters.{LetterSet, letters_of, place_of, letter_at}
use Rattle.letters.specs.Search.{confirm}
use Rattle.letters.proofs.Laws.{size_of, place_below, place_holds, letter_found}
use Rattle.std.specs.Prelude.{Option, Some, None}

-- a guess is right of a set if it is the place of each of the set's letters
abbrev pub right : LetterSet → (ℕ → ℕ) → Bool
right set g = all (size_of set) (λ k. eqb (g (letter_at set k)) k)

module _ (set : LetterSet) (g : ℕ → ℕ) (r : T (right set g)) (b : ℕ) where
  -- where the set has the letter, the guess is its place
  there : (k : ℕ) → place_of set b ≡ Some k → confirm (letters_of set) (g b) b ≡ place_of set b
  unfolding confirm letter_at
  there k e =
      let h = place_below set b k e in
      let l = place_holds set b k e in
      let f = eqb→eq (g (letter_at set k)) k (each (size_of set) (λ k. eqb (g (letter_at set k)) k) r k h) in
      let q : g b ≡ k = rw l at f in
      rw (e, q, lt-leb (size_of set) k h, eq-eqb (letter_at set k) b l)

  -- where it has not, no guess is confirmed
  nowhere : (past : Bool) → leb (size_of set) (g b) ≡ past → (same : Bool) → eqb (letter_at set (g b)) b ≡ same → place_of set b ≡ None → cond past None (cond same (Some (g b)) None) ≡ None
  nowhere true p same q e = refl
  nowhere false p false q e = refl
  nowhere false p true q e =
      let l = letter_found set (g b) (leb-false (size_of set) (g b) p) in
      let f = ap (place_of set) (sym (eqb-true (letter_at set (g b)) b q)) ∙ l in
      clash (cc)

  by_place_lem : (p : Option ℕ) → place_of set b ≡ p → confirm (letters_of set) (g b) b ≡ place_of set b
  unfolding confirm letter_at
  by_place_lem (Some k) e = there k e
  by_place_lem None e = rw e (nowhere (leb (size_of set) (g b)) refl (eqb (letter_at set (g b)) b) refl e)

  pub confirmed_is : confirm (letters_of set) (g b) b ≡ place_of set b
  confirmed_is = by_place_lem (place_of set b) refl

-- a confirmed place is one of the set's
small_by : (n k j : ℕ) (past same : Bool) → leb n k ≡ past → cond past None (cond same (Some k) None) ≡ Some j → j < n
small_by n k j true same e f = clash (cc)
small_by n k j false false e f = clash (cc)
small_by n k j false true e f = let l : k < n = leb-false n k e in let h : k ≡ j = cc in rw h at l

pub confirm_small : (set : List ℕ) (k b j : ℕ) → confirm set k b ≡ Some j → j < length set
unfolding confirm
confirm_small set k b j e = small_by (length set) k j (leb (length set) k) (eqb (get_or set k 0) b) refl e
