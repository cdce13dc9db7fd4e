-- Digits of a number and the number of digits undo each other, once over their count. Assumes nothing.
use mathlib.Core.Path.{◌≡◌, refl, sym, ap, ◌∙◌}
use mathlib.Core.Bool.{true, false, ◌&&◌, and_assoc}
use mathlib.Core.List.{List, [], ◌∷◌, ◌++◌}
use Prim.Native.Nat.{ℕ, zero, suc, ◌+◌, ◌-◌, ◌*◌, ◌/◌, ◌%◌, ◌^◌, ◌≤◌, ◌<◌}
use native.Mathlib.Nat.{add-suc, add-zero, div-div-eq-div-mul, div-one, mod-add-div', mul_assoc, pow-suc, pow-succ'}
use native.Mathlib.Omega.{arith}
use borrow.Author.Tests.{lt-leb, le-leb, le-ltb}
use lib.ListN.{length, take, length-append}
use lib.Seq.{take_all, take-append-le}
use Rattle.words.specs.Bytes.{has_high, is_digit, all_digits}
use Rattle.runs.specs.Runs.{value_from, value_of, leading_digits, last_digits}
use Rattle.words.proofs.Laws.{and_left, and_right, digit_range, all_head, all_tail}

pub digits_length : (n x : ℕ) → length (last_digits n x) ≡ n
unfolding last_digits
digits_length zero x = refl
digits_length (suc n) x = length-append (last_digits n (x / 10)) _ ∙ omega (arith, digits_length n (x / 10))

-- ---- all of them are digits

pub all_append : (ds es : List ℕ) → all_digits (ds ++ es) ≡ (all_digits ds && all_digits es)
unfolding all_digits
all_append [] es = refl
all_append (d ∷ ds) es = rw (all_append ds es) (sym (and_assoc (is_digit d) _ _))

last_digit : (x : ℕ) → is_digit (48 + x % 10) ≡ true
unfolding is_digit
last_digit x =
    let h : 48 ≤ 48 + x % 10 = omega arith in
    let k : 48 + x % 10 ≤ 57 = omega arith in
    rw (le-ltb _ _ h, le-leb _ _ k)

pub digits_all : (n x : ℕ) → all_digits (last_digits n x) ≡ true
unfolding last_digits all_digits
digits_all zero x = refl
digits_all (suc n) x = all_append (last_digits n (x / 10)) _ ∙ rw (digits_all n (x / 10), last_digit x)

-- ---- their number

pub value_append : (ds es : List ℕ) (a : ℕ) → value_from a (ds ++ es) ≡ value_from (value_from a ds) es
unfolding value_from
value_append [] es a = refl
value_append (d ∷ ds) es a = value_append ds es (a * 10 + (d - 48))

value_last : (ds : List ℕ) (a b : ℕ) → value_from a (ds ++ (b ∷ [])) ≡ value_from a ds * 10 + (b - 48)
unfolding value_from
value_last ds a b = value_append ds (b ∷ []) a

pub digits_value : (n x : ℕ) → x < 10 ^ n → value_of (last_digits n x) ≡ x
unfolding last_digits value_from
digits_value zero x h = omega arith
digits_value (suc n) x h =
    let k : x < 10 * 10 ^ n = rw pow-succ' at h in
    let q : x / 10 < 10 ^ n = omega arith in
    value_last (last_digits n (x / 10)) 0 (48 + x % 10) ∙ omega (arith, digits_value n (x / 10) q)

-- ---- and back: by the last digit

-- a list that is not empty, as its last element after the others
record Ended (ds : List ℕ) : Type 0 where
  front : List ℕ
  end : ℕ
  is : ds ≡ front ++ (end ∷ [])

ended : (d : ℕ) (ds : List ℕ) → Ended (d ∷ ds)
ended d [] = record { front = []; end = d; is = refl }
ended d (e ∷ ds) = let r = ended e ds in record { front = d ∷ r.front; end = r.end; is = ap (λ (t : List ℕ). d ∷ t) r.is }

-- n digits and one more, where it holds of the n
one_more : (n : ℕ) (front : List ℕ) (b : ℕ) → all_digits (front ++ (b ∷ [])) ≡ true → (all_digits front ≡ true → last_digits n (value_of front) ≡ front)
    → last_digits (suc n) (value_of (front ++ (b ∷ []))) ≡ front ++ (b ∷ [])
unfolding last_digits all_digits
one_more n front b t h =
    let v = sym (all_append front (b ∷ [])) ∙ t in
    let k = digit_range b (and_left (is_digit b) true (and_right (all_digits front) _ v)) in
    let e = value_last front 0 b in
    let q : value_of (front ++ (b ∷ [])) / 10 ≡ value_of front = omega arith in
    let m : 48 + value_of (front ++ (b ∷ [])) % 10 ≡ b = omega arith in
    rw (q, m, h (and_left _ _ v))

pub value_digits : (n : ℕ) (ds : List ℕ) → length ds ≡ n → all_digits ds ≡ true → last_digits n (value_of ds) ≡ ds
unfolding last_digits
value_digits zero [] h t = refl
value_digits zero (d ∷ ds) h t = absurd (omega arith)
value_digits (suc n) [] h t = absurd (omega arith)
value_digits (suc n) (d ∷ ds) h t =
    let r = ended d ds in
    let g = sym (length-append r.front (r.end ∷ [])) ∙ ap length (sym r.is) ∙ h in
    let m = one_more n r.front r.end (ap all_digits (sym r.is) ∙ t) (value_digits n r.front (omega arith)) in
    ap (λ (t : List ℕ). last_digits (suc n) (value_of t)) r.is ∙ m ∙ sym r.is

-- ---- no digit is a high byte; leading digits end at the first other byte

pub low_digits : (ds es : List ℕ) → all_digits ds ≡ true → has_high (ds ++ es) ≡ has_high es
unfolding has_high
low_digits [] es t = refl
low_digits (d ∷ ds) es t =
    let r = digit_range d (all_head d ds t) in
    let b : d < 128 = omega arith in
    rw (lt-leb 128 d b) (low_digits ds es (all_tail d ds t))

pub leading : (ds : List ℕ) (b : ℕ) (rest : List ℕ) → all_digits ds ≡ true → is_digit b ≡ false → leading_digits (ds ++ (b ∷ rest)) ≡ ds
unfolding leading_digits
leading [] b rest t n = rw n
leading (d ∷ ds) b rest t n = rw (all_head d ds t, leading ds b rest (all_tail d ds t) n)

-- ---- only what is below the n-th power of ten counts

digits_above : (n a q : ℕ) → last_digits n (a + q * 10 ^ n) ≡ last_digits n a
unfolding last_digits
digits_above zero a q = refl
digits_above (suc n) a q =
    let p : q * 10 ^ suc n ≡ q * 10 ^ n * 10 = rw (pow-suc 10 n, mul_assoc q (10 ^ n) 10) in
    let d : (a + q * 10 ^ n * 10) / 10 ≡ a / 10 + q * 10 ^ n = omega arith in
    let m : (a + q * 10 ^ n * 10) % 10 ≡ a % 10 = omega arith in
    rw (p, d, m, digits_above n (a / 10) q)

pub digits_mod : (n x : ℕ) → last_digits n (x % 10 ^ n) ≡ last_digits n x
digits_mod n x = sym (digits_above n (x % 10 ^ n) (x / 10 ^ n)) ∙ ap (last_digits n) (mod-add-div' x (10 ^ n))

-- ---- the first of them

-- the first q of q + j digits are the digits of the number without its last j
front_digits : (q j x : ℕ) → take q (last_digits (q + j) x) ≡ last_digits q (x / 10 ^ j)
unfolding last_digits
front_digits q zero x =
    let h : length (last_digits q x) ≤ q = omega (arith, digits_length q x) in
    rw (add-zero q, take_all q (last_digits q x) h, div-one x)
front_digits q (suc j) x =
    let h : q ≤ length (last_digits (q + j) (x / 10)) = omega (arith, digits_length (q + j) (x / 10)) in
    rw (add-suc q j, take-append-le q (last_digits (q + j) (x / 10)) _ h, front_digits q j (x / 10), div-div-eq-div-mul x 10 (10 ^ j), pow-succ' 10 j)

-- so the first q of n digits are those of their number without its last n - q
pub first_digits : (n q : ℕ) (ds : List ℕ) → q ≤ n → length ds ≡ n → all_digits ds ≡ true → last_digits q (value_of ds / 10 ^ (n - q)) ≡ take q ds
first_digits n q ds h l t =
    let e : q + (n - q) ≡ n = omega arith in
    sym (front_digits q (n - q) (value_of ds)) ∙ ap (λ (m : ℕ). take q (last_digits m (value_of ds))) e ∙ ap (take q) (value_digits n ds l t)
