-- How a numeral grows from its last digit on, one digit or eight in a step. Assumes nothing.
use mathlib.Core.Path.{◌≡◌, refl, sym, ap, ◌∙◌}
use mathlib.Core.Bool.{Bool, true, false}
use mathlib.Core.List.{List, [], ◌∷◌, ◌++◌, append_assoc, append-nil}
use Prim.Native.Nat.{ℕ, zero, suc, ◌+◌, ◌-◌, ◌*◌, ◌/◌, ◌%◌, ◌^◌, ◌≤◌, ◌<◌}
use native.Mathlib.Nat.{pow-succ', pow-le-pow_right, div-one, div-div-eq-div-mul, suc-add, zero-add, add-zero, add-suc, zero-lt-suc}
use native.Mathlib.Omega.{arith}
use borrow.Author.Tests.{lt-ltb, le-ltb, ltb-false}
use lib.Dec.{ltb}
use lib.ListN.{drop}
use lib.Seq.{drop_at}
use Rattle.std.proofs.lemmas.Bool.{cases_lt}
use Rattle.std.proofs.Common.{inl, inr}
use Rattle.whole.proofs.Powers.{ten_pos}
use Rattle.runs.specs.Runs.{last_digits}
use Rattle.runs.proofs.Decimals.{digits_length}
use Rattle.listing.specs.Numerals.{digit, numeral, decimal}

-- a number of more than one digit, before a text: its last digit belongs to the text
longer : (k n : ℕ) (t : List ℕ) → 10 ≤ n → numeral (suc k) n ++ t ≡ numeral k (n / 10) ++ (digit (n % 10) ∷ t)
unfolding numeral
longer k n t h = rw (le-ltb n 10 h, append_assoc)

-- one and two digits
single : (k n : ℕ) (t : List ℕ) → n < 10 → digit n ∷ t ≡ numeral (suc k) n ++ t
unfolding numeral
single k n t h = rw (lt-ltb n 10 h)

pub one_is : (n : ℕ) (t : List ℕ) → n < 10 → digit n ∷ t ≡ decimal n ++ t
one_is = single 19

pub two_is : (n : ℕ) (t : List ℕ) → 10 ≤ n → n < 100 → digit (n / 10) ∷ (digit (n % 10) ∷ t) ≡ decimal n ++ t
two_is n t h g = rw (longer 19 n t h) (single 18 (n / 10) (digit (n % 10) ∷ t) (omega arith))

-- what is left has a digit less
less : (k n : ℕ) → n < 10 ^ suc k → n / 10 < 10 ^ k
less k n h = let g : n < 10 * 10 ^ k = rw pow-succ' at h in omega arith

-- a number below 10 to the k has no more digits than k
enough_by : (k j n : ℕ) (t : Bool) → ltb n 10 ≡ t → (10 ≤ n → numeral (k + j) (n / 10) ≡ numeral k (n / 10)) → numeral (suc (k + j)) n ≡ numeral (suc k) n
unfolding numeral
enough_by k j n true e f = rw e
enough_by k j n false e f = rw (e, f (ltb-false n 10 e))

enough : (k j n : ℕ) → n < 10 ^ suc k → numeral (suc (k + j)) n ≡ numeral (suc k) n
enough zero j n h = enough_by zero j n (ltb n 10) refl (λ g. absurd (omega arith))
enough (suc k) j n h = enough_by (suc k) j n (ltb n 10) refl (λ g. rw (suc-add k j) (enough k j (n / 10) (less (suc k) n h)))

-- ---- several digits in one step

-- a number of more than m digits, before a text: its last m belong to the text
many : (m k n : ℕ) (t : List ℕ) → 10 ^ m ≤ n → numeral (m + k) n ++ t ≡ numeral k (n / 10 ^ m) ++ (last_digits m n ++ t)
unfolding last_digits
many zero k n t h = rw (zero-add k, div-one n)
many (suc m) k n t h =
    let p = ten_pos m in
    let g : 10 * 10 ^ m ≤ n = rw pow-succ' at h in
    let f : 10 ^ m ≤ n / 10 = omega arith in
    rw (suc-add m k, longer (m + k) n t (omega arith), many m k (n / 10) (digit (n % 10) ∷ t) f, div-div-eq-div-mul n 10 (10 ^ m), ← pow-succ' 10 m, append_assoc (last_digits m (n / 10)) ((48 + n % 10) ∷ []) t)

pub eight_more : (n : ℕ) (t : List ℕ) → 100000000 ≤ n → n < 2 ^ 64 → decimal (n / 100000000) ++ (last_digits 8 n ++ t) ≡ decimal n ++ t
eight_more n t h g =
    let q : n / 100000000 < 10 ^ 12 = omega arith in
    rw (enough 11 8 (n / 100000000) q) (sym (many 8 12 n t h))

-- ---- a number of eight digits at most, by all eight: 7 - k zeros stand before its k + 1

-- a number of k + 1 digits has no zeros in front
full : (k n : ℕ) → n < 10 ^ suc k → (0 < k → 10 ^ k ≤ n) → numeral (suc k) n ≡ last_digits (suc k) n
unfolding numeral last_digits
full zero n h f = let e : n % 10 ≡ n = omega arith in rw (lt-ltb n 10 h, e)
full (suc k) n h f =
    let p = ten_pos k in
    let g : 10 * 10 ^ k ≤ n = rw pow-succ' at (f (omega arith)) in
    rw (le-ltb n 10 (omega arith), full k (n / 10) (less (suc k) n h) (λ _. omega arith))

-- the last q + j digits are the last q of the others, and then the last j
split : (q j n : ℕ) → last_digits (q + j) n ≡ last_digits q (n / 10 ^ j) ++ last_digits j n
unfolding last_digits
split q zero n = rw (add-zero q, div-one n) (sym (append-nil _))
split q (suc j) n =
    rw (add-suc q j, split q j (n / 10), div-div-eq-div-mul n 10 (10 ^ j), ← pow-succ' 10 j) (append_assoc (last_digits q (n / 10 ^ suc j)) (last_digits j (n / 10)) ((48 + n % 10) ∷ []))

-- k, where a number has k + 1 digits, by the logarithm
pub few : (n k : ℕ) → n < 100000000 → 10 ^ k ≤ n → k ≤ 7
few n k h f = elim (cases_lt k 8) [
  | inl l ↦ omega arith
  | inr l ↦ let m : 10 ^ 8 ≤ 10 ^ k = pow-le-pow_right (zero-lt-suc 9) l in absurd (omega arith)
]

pub short_is : (n k : ℕ) (t : List ℕ) → n < 100000000 → 10 ^ k ≤ n → n < 10 * 10 ^ k → drop (7 - k) (last_digits 8 n ++ t) ≡ decimal n ++ t
short_is n k t h above g =
    let f = few n k h above in
    let below : n < 10 ^ suc k = rw pow-succ' g in
    let e : 7 - k + suc k ≡ 8 = omega arith in
    let m : suc (k + (19 - k)) ≡ 20 = omega arith in
    let a : last_digits 8 n ++ t ≡ last_digits (7 - k) (n / 10 ^ suc k) ++ (last_digits (suc k) n ++ t) =
    ap (λ (i : ℕ). last_digits i n ++ t) (sym e) ∙ rw (split (7 - k) (suc k) n) (append_assoc (last_digits (7 - k) (n / 10 ^ suc k)) (last_digits (suc k) n) t) in
    let b : decimal n ≡ last_digits (suc k) n =
    ap (λ (i : ℕ). numeral i n) (sym m) ∙ enough k (19 - k) n below ∙ full k n below (λ _. above) in
    rw (a, b) (drop_at (last_digits (7 - k) (n / 10 ^ suc k)) (last_digits (suc k) n ++ t) (7 - k) (digits_length (7 - k) (n / 10 ^ suc k)))
