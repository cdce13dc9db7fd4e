-- A letter that was needed has a place, below 24. Assumes nothing.
use mathlib.Core.Path.{◌≡◌, refl}
use Prim.Native.Nat.{ℕ, ◌+◌, ◌<◌}
use native.Mathlib.Omega.{arith}
use Rattle.whole.proofs.Parts.{clash}
use Rattle.letters.specs.Letters.{LetterSet, place_of, by_place, first_tile, tile_in}
use Rattle.letters.proofs.Laws.{place_below, size_le, first_le}
use Rattle.std.specs.Prelude.{Option, Some, None}

-- where the answer is not the one for a letter in no set, it is the one at the letter's place
pub record AtPlace {A : Type 0} (place : Option ℕ) (at : ℕ → A) (y : A) : Type 0 where
  pub k : ℕ
  pub is : place ≡ Some k
  pub then : at k ≡ y

pub in_set : {A : Type 0} (place : Option ℕ) (x : A) (at : ℕ → A) (y : A) → (x ≡ y → ⊥) → by_place place x at ≡ y → AtPlace place at y
in_set None x at y n e = absurd (n e)
in_set (Some k) x at y n e = record { k = k; is = refl; then = e }

-- every place is below 24
pub place_lt : (set : LetterSet) (b k : ℕ) → place_of set b ≡ Some k → k < 24
place_lt set b k e = omega (arith, place_below set b k e, size_le set)

-- and every tile below 44
tile_by : (set : LetterSet) (b c : ℕ) (p : Option ℕ) → place_of set b ≡ p → by_place p None (λ k. Some (first_tile set + k)) ≡ Some c → c < 44
tile_by set b c (Some k) e t =
    let h = place_lt set b k e in
    let f = first_le set in
    let s : first_tile set + k ≡ c = cc in
    omega arith
tile_by set b c None e t = clash (cc)

pub tile_lt : (set : LetterSet) (b c : ℕ) → tile_in set b ≡ Some c → c < 44
unfolding tile_in
tile_lt set b c t = tile_by set b c (place_of set b) refl t
