-- Digits and parts of them. Assumes nothing.
use mathlib.Core.Path.{◌≡◌, refl, sym, ◌∙◌}
use mathlib.Core.Bool.{Bool, true, false, cond, ◌&&◌, and_assoc}
use mathlib.Core.List.{List, [], ◌∷◌}
use Prim.Native.Nat.{ℕ, zero, suc, ◌-◌, ◌≤◌, ◌<◌}
use native.Mathlib.Omega.{arith}
use borrow.Author.Tests.{ltb-false, leb-true}
use lib.Dec.{ltb, leb}
use lib.ListN.{length, get_or, take, drop, length-drop}
use lib.Seq.{take_all}
use Rattle.words.specs.Bytes.{is_digit, all_digits}
use Rattle.words.specs.Words.{word_of, first_word}

pub and_left : (a b : Bool) → (a && b) ≡ true → a ≡ true
and_left true b e = refl
and_left false b e = e

pub and_right : (a b : Bool) → (a && b) ≡ true → b ≡ true
and_right true b e = e
and_right false b e = cc

range_by : (x : ℕ) (t : Bool) → ltb x 48 ≡ t → cond t false (leb x 57) ≡ true → (48 ≤ x) × (x ≤ 57)
range_by x true e h = absurd (omega (arith, leb-true 1 0 h))
range_by x false e h = (ltb-false x 48 e, leb-true x 57 h)

pub digit_range : (x : ℕ) → is_digit x ≡ true → (48 ≤ x) × (x ≤ 57)
unfolding is_digit
digit_range x t = range_by x (ltb x 48) refl t

pub all_head : (x : ℕ) (ds : List ℕ) → all_digits (x ∷ ds) ≡ true → is_digit x ≡ true
unfolding all_digits
all_head x ds t = and_left _ _ t

pub all_tail : (x : ℕ) (ds : List ℕ) → all_digits (x ∷ ds) ≡ true → all_digits ds ≡ true
unfolding all_digits
all_tail x ds t = and_right (is_digit x) _ t

pub digit_at : (ds : List ℕ) (i : ℕ) → all_digits ds ≡ true → i < length ds → is_digit (get_or ds i 0) ≡ true
digit_at [] i t h = absurd (omega arith)
digit_at (d ∷ ds) zero t h = all_head d ds t
digit_at (d ∷ ds) (suc i) t h = digit_at ds i (all_tail d ds t) (omega arith)

-- a part of a slice that goes to its end
pub rest : (s : List ℕ) (n : ℕ) → take (length s - n) (drop n s) ≡ drop n s
rest s n = take_all (length s - n) (drop n s) (omega (arith, length-drop n s))

-- digits in two parts
pub all_split : (n : ℕ) (ds : List ℕ) → all_digits ds ≡ (all_digits (take n ds) && all_digits (drop n ds))
unfolding all_digits
all_split zero ds = refl
all_split (suc n) [] = refl
all_split (suc n) (d ∷ ds) = rw (all_split n ds) (sym (and_assoc (is_digit d) _ _))

-- parts of digits: the first n, those after them, and j from the place i on
pub all_front : (s : List ℕ) (n : ℕ) → all_digits s ≡ true → all_digits (take n s) ≡ true
all_front s n t = and_left _ _ (sym (all_split n s) ∙ t)

pub all_rest : (s : List ℕ) (n : ℕ) → all_digits s ≡ true → all_digits (drop n s) ≡ true
all_rest s n t = and_right (all_digits (take n s)) _ (sym (all_split n s) ∙ t)

pub all_part : (s : List ℕ) (i j : ℕ) → all_digits s ≡ true → all_digits (take j (drop i s)) ≡ true
all_part s i j t = all_front (drop i s) j (all_rest s i t)

-- the word of eight bytes
pub word_eight : (t : List ℕ) → length t ≡ 8 → first_word t ≡ word_of t
unfolding first_word
word_eight t l = rw (l, take_all 8 t (omega arith))
