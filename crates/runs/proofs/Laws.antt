-- The numbers that digits spell: how a number grows, how large one of n digits is. Assumes nothing.
use mathlib.Core.Path.{◌≡◌, refl}
use mathlib.Core.Bool.{true, false}
use mathlib.Core.List.{List, [], ◌∷◌}
use Prim.Native.Nat.{ℕ, zero, suc, ◌+◌, ◌-◌, ◌*◌, ◌^◌, ◌≤◌, ◌<◌}
use native.Mathlib.Nat.{mul-le-mul_right, pow-succ'}
use native.Mathlib.Numerals.{add-one}
use native.Mathlib.Omega.{arith}
use lib.ListN.{length, get_or, take, drop, length-take, drop_of_length-le}
use lib.Seq.{drop-cons}
use Rattle.whole.proofs.Powers.{ten_le}
use Rattle.words.specs.Bytes.{is_digit, all_digits}
use Rattle.words.proofs.Laws.{digit_range, all_head, all_tail, all_front}
use Rattle.runs.specs.Runs.{value_from, value_of, leading_digits}

-- a number followed by digits is no less
pub grows : (ds : List ℕ) (a : ℕ) → a ≤ value_from a ds
unfolding value_from
grows [] a = omega arith
grows (d ∷ ds) a = omega (arith, grows ds (a * 10 + (d - 48)))

-- the digits from the place i on: none past the end or at another byte, else that digit and those after it
module _ (s : List ℕ) (i : ℕ) where
  pub lead_end : length s ≤ i → leading_digits (drop i s) ≡ []
  unfolding leading_digits
  lead_end h = rw (drop_of_length-le s h)

  pub lead_stop : i < length s → is_digit (get_or s i 0) ≡ false → leading_digits (drop i s) ≡ []
  unfolding leading_digits
  lead_stop h t = rw (drop-cons s i 0, t)

  pub lead_more : i < length s → is_digit (get_or s i 0) ≡ true → leading_digits (drop i s) ≡ get_or s i 0 ∷ leading_digits (drop (i + 1) s)
  unfolding leading_digits
  lead_more h t = rw (add-one, drop-cons s i 0, t)

pub ruleset leads = (lead_end, lead_stop, lead_more, grows)

-- n digits after a are below (a + 1) times 10 to the n, so n digits alone are below 10 to the n
pub below : (ds : List ℕ) (a : ℕ) → all_digits ds ≡ true → value_from a ds < (a + 1) * 10 ^ length ds
unfolding value_from
below [] a t = omega arith
below (d ∷ ds) a t =
    let r = digit_range d (all_head d ds t) in
    let b : a * 10 + (d - 48) + 1 ≤ (a + 1) * 10 = omega arith in
    rw (pow-succ' 10 (length ds))
    (omega (arith, below ds (a * 10 + (d - 48)) (all_tail d ds t), mul-le-mul_right (10 ^ length ds) b))

-- n digits are below 10 to the n
pub number_lt : (s : List ℕ) → all_digits s ≡ true → value_of s < 10 ^ length s
number_lt s t = omega (arith, below s 0 t)

-- one digit more
pub value_more : (s : List ℕ) (i a : ℕ) → i < length s → value_from a (take (i + 1) s) ≡ value_from a (take i s) * 10 + (get_or s i 0 - 48)
unfolding value_from
value_more [] i a h = absurd (omega arith)
value_more (d ∷ s) zero a h = refl
value_more (d ∷ s) (suc i) a h = rw add-one (rw add-one at (value_more s i (a * 10 + (d - 48)) (omega arith)))

-- so few digits are far below what a word holds
pub few_lt : (s : List ℕ) (i : ℕ) → all_digits s ≡ true → i < length s → length s ≤ 3 → value_of (take i s) < 100000000000
few_lt s i t h m =
    let k : length (take i s) ≤ 11 = simp length-take (omega arith) in
    omega (arith, number_lt (take i s) (all_front s i t), ten_le (length (take i s)) k)

-- the digits of a short run, one after the other
pub ruleset steps = (value_more, few_lt)
