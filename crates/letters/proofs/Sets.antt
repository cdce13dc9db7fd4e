-- The sets by a number each, so that one computation covers all of them. Assumes nothing.
use mathlib.Core.Path.{◌≡◌, refl, subst}
use mathlib.Core.Bool.{Bool}
use mathlib.Core.List.{[], ◌∷◌}
use Prim.Native.Nat.{ℕ, ◌<◌}
use lib.Dec.{T, lit<}
use lib.ListN.{get_or}
use Rattle.whole.proofs.Table.{all, each}
use Rattle.letters.specs.Letters.{LetterSet, NoLetters, UtmBands, UpsBands, UtmColumns0, UtmColumns1, UtmColumns2, UtmRows, UpsColumnsA, UpsColumnsB, UpsColumnsY, UpsColumnsZ, UpsRowsSouth, UpsRowsNorth}

-- a number for each set, and the set of a number
abbrev pub number_of_lem : LetterSet → ℕ
number_of_lem NoLetters = 0
number_of_lem UtmBands = 1
number_of_lem UpsBands = 2
number_of_lem UtmColumns0 = 3
number_of_lem UtmColumns1 = 4
number_of_lem UtmColumns2 = 5
number_of_lem UtmRows = 6
number_of_lem UpsColumnsA = 7
number_of_lem UpsColumnsB = 8
number_of_lem UpsColumnsY = 9
number_of_lem UpsColumnsZ = 10
number_of_lem UpsRowsSouth = 11
number_of_lem UpsRowsNorth = 12

abbrev pub set_at : ℕ → LetterSet
set_at n = get_or (NoLetters ∷ UtmBands ∷ UpsBands ∷ UtmColumns0 ∷ UtmColumns1 ∷ UtmColumns2 ∷ UtmRows ∷ UpsColumnsA ∷ UpsColumnsB ∷ UpsColumnsY ∷ UpsColumnsZ ∷ UpsRowsSouth ∷ UpsRowsNorth ∷ []) n NoLetters

pub number_lt : (set : LetterSet) → number_of_lem set < 13
number_lt NoLetters = lit< tt
number_lt UtmBands = lit< tt
number_lt UpsBands = lit< tt
number_lt UtmColumns0 = lit< tt
number_lt UtmColumns1 = lit< tt
number_lt UtmColumns2 = lit< tt
number_lt UtmRows = lit< tt
number_lt UpsColumnsA = lit< tt
number_lt UpsColumnsB = lit< tt
number_lt UpsColumnsY = lit< tt
number_lt UpsColumnsZ = lit< tt
number_lt UpsRowsSouth = lit< tt
number_lt UpsRowsNorth = lit< tt

pub set_is : (set : LetterSet) → set_at (number_of_lem set) ≡ set
set_is NoLetters = refl
set_is UtmBands = refl
set_is UpsBands = refl
set_is UtmColumns0 = refl
set_is UtmColumns1 = refl
set_is UtmColumns2 = refl
set_is UtmRows = refl
set_is UpsColumnsA = refl
set_is UpsColumnsB = refl
set_is UpsColumnsY = refl
set_is UpsColumnsZ = refl
set_is UpsRowsSouth = refl
set_is UpsRowsNorth = refl

-- what a computation shows of each number holds of each set
pub for_all : (f : LetterSet → Bool) → T (all 13 (λ n. f (set_at n))) → (set : LetterSet) → T (f set)
for_all f t set = subst (λ (s : LetterSet). T (f s)) (set_is set) (each 13 (λ n. f (set_at n)) t (number_of_lem set) (number_lt set))
