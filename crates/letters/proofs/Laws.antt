-- One law for all letter sets: a letter is found at a place exactly if that place is one of the set and holds it.
-- So place and letter undo each other. Assumes nothing.
use mathlib.Core.Path.{◌≡◌, refl, ap, sym, ◌∙◌}
use mathlib.Core.Bool.{Bool, true, false, cond, ◌&&◌}
use mathlib.Core.Logic.{◌↔◌}
use mathlib.Core.List.{List, [], ◌∷◌}
use Prim.Native.Nat.{ℕ, suc, ◌+◌, ◌<◌, ◌≤◌}
use native.Mathlib.Omega.{arith}
use mir.Facts.{and_yes}
use borrow.Author.Tests.{eqb-true, ne_eqb}
use lib.Dec.{T, eqb, leb, leb→le, eqb→eq}
use lib.ListN.{length, get_or}
use Rattle.whole.proofs.Parts.{clash}
use Rattle.whole.proofs.Table.{all, each, every, every_head, every_tail}
use Rattle.letters.specs.Letters.{LetterSet, letters_of, place_from, place_of, letter_at, first_tile}
use Rattle.letters.proofs.Sets.{set_at, for_all}
use Rattle.std.specs.Prelude.{Option, Some, None}

-- at the i-th place of a list from i on: the j-th place holds x
record Placed (i : ℕ) (set : List ℕ) (x j : ℕ) : Type 0 where
  pub step : ℕ
  pub is : j ≡ i + step
  pub below : step < length set
  pub holds : get_or set step 0 ≡ x

placed_by : (i y : ℕ) (ys : List ℕ) (x j : ℕ) → (place_from (suc i) ys x ≡ Some j → Placed (suc i) ys x j) → (t : Bool) → eqb y x ≡ t → cond t (Some i) (place_from (suc i) ys x) ≡ Some j → Placed i (y ∷ ys) x j
placed_by i y ys x j later true q e = record { step = 0; is = let p : i ≡ j = cc in omega arith; below = omega arith; holds = eqb-true y x q }
placed_by i y ys x j later false q e =
    let p = later e in
    record { step = suc p.step; is = omega (arith, p.is); below = omega (arith, p.below); holds = p.holds }

placed : (i : ℕ) (set : List ℕ) (x j : ℕ) → place_from i set x ≡ Some j → Placed i set x j
unfolding place_from
placed i [] x j e = clash (cc)
placed i (y ∷ ys) x j e = placed_by i y ys x j (placed (suc i) ys x j) (eqb y x) refl e

abbrev pub size_of : LetterSet → ℕ
size_of set = length (letters_of set)

-- a place that was found is one of the set, and the letter stands there
pub place_below : (set : LetterSet) (b k : ℕ) → place_of set b ≡ Some k → k < size_of set
unfolding place_of
place_below set b k e = let p = placed 0 (letters_of set) b k e in omega (arith, p.is, p.below)

pub place_holds : (set : LetterSet) (b k : ℕ) → place_of set b ≡ Some k → letter_at set k ≡ b
unfolding place_of letter_at
place_holds set b k e =
    let p = placed 0 (letters_of set) b k e in
    let q : k ≡ p.step = omega (arith, p.is) in
    ap (λ (j : ℕ). get_or (letters_of set) j 0) q ∙ p.holds

-- and back: no set has a letter twice, by one computation over all of them
abbrev is_at : Option ℕ → ℕ → Bool
is_at (Some j) k = eqb j k
is_at None k = false

is_at→eq : (p : Option ℕ) (k : ℕ) → T (is_at p k) → p ≡ Some k
is_at→eq (Some j) k t = ap Some (eqb→eq j k t)
is_at→eq None k t = absurd t

abbrev found : LetterSet → ℕ → Bool
found set k = is_at (place_of set (letter_at set k)) k

all_found : T (all 13 (λ n. all (size_of (set_at n)) (found (set_at n))))
unfolding place_of letter_at place_from
all_found = tt

pub letter_found : (set : LetterSet) (k : ℕ) → k < size_of set → place_of set (letter_at set k) ≡ Some k
letter_found set k h =
    is_at→eq (place_of set (letter_at set k)) k
    (each (size_of set) (found set) (for_all (λ set. all (size_of set) (found set)) all_found set) k h)

-- in one: a letter is found at a place exactly if that place is one of the set and holds it
pub placed_exactly : (set : LetterSet) (b k : ℕ) → (place_of set b ≡ Some k) ↔ ((k < size_of set) × (letter_at set k ≡ b))
placed_exactly set b k =
    (λ e. (place_below set b k e, place_holds set b k e), λ h. ap (place_of set) (sym h.1) ∙ letter_found set k h.0)

-- a set has at most 24 letters
pub size_le : (set : LetterSet) → size_of set ≤ 24
size_le set = leb→le (size_of set) 24 (for_all (λ set. leb (size_of set) 24) tt set)

-- and its first tile is at most 20
pub first_le : (set : LetterSet) → first_tile set ≤ 20
unfolding first_tile
first_le set = leb→le (first_tile set) 20 (for_all (λ set. leb (first_tile set) 20) tt set)

-- all letters are capitals: a byte outside A to Z, 65 to 90, is in no set
abbrev pub is_capital : ℕ → Bool
is_capital x = leb 65 x && leb x 90

pub not_in : (i : ℕ) (xs : List ℕ) (b : ℕ) → T (every is_capital xs) → ((65 ≤ b → b ≤ 90 → ⊥)) → place_from i xs b ≡ None
unfolding place_from
not_in i [] b t h = refl
not_in i (x ∷ xs) b t h =
    let k = and_yes (leb 65 x) (leb x 90) (every_head is_capital x xs t) in
    let p = leb→le 65 x k.0 in
    let q = leb→le x 90 k.1 in
    rw (ne_eqb x b (λ e. h (omega arith) (omega arith))) (not_in (suc i) xs b (every_tail is_capital x xs t) h)

pub no_capital : (set : LetterSet) (b : ℕ) → (65 ≤ b → b ≤ 90 → ⊥) → place_of set b ≡ None
unfolding place_of
no_capital set b h = not_in 0 (letters_of set) b (for_all (λ set. every is_capital (letters_of set)) tt set) h
