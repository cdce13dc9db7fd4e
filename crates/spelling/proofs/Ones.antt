-- Eight digits of a number as one number: parted by fours, twos and ones they are its last eight digits. Assumes nothing.
use mathlib.Core.Path.{◌≡◌, sym, ap, ◌∙◌}
use mathlib.Core.Bool.{true}
use mathlib.Core.List.{List}
use Prim.Native.Nat.{ℕ, ◌+◌, ◌-◌, ◌*◌, ◌/◌, ◌%◌, ◌^◌, ◌≤◌, ◌<◌}
use native.Mathlib.Nat.{zero-add}
use native.Mathlib.Omega.{arith}
use lib.Bits.{bit_and, and_block, and_mask, and_zero_l}
use lib.Dec.{lit<}
use lib.ListN.{length, get_or}
use Rattle.words.specs.Bytes.{all_digits}
use Rattle.runs.specs.Runs.{value_from, value_of, last_digits}
use Rattle.words.specs.Words.{word_of}
use Rattle.words.proofs.Words.{eight_are}
use Rattle.runs.proofs.Eights.{off_of, off_is, nine}
use Rattle.runs.proofs.Decimals.{digits_length, digits_all, digits_value, digits_mod}

-- the steps of the code
abbrev pub fours_of : ℕ → ℕ
fours_of x = x / 10000 + x % 10000 * 4294967296

abbrev pub high_of : ℕ → ℕ
high_of x = bit_and (fours_of x * 10486 / 1048576) 545460846719

abbrev pub twos_of : ℕ → ℕ
twos_of x = high_of x + (fours_of x - high_of x * 100) * 65536

abbrev pub tens_of : ℕ → ℕ
tens_of x = bit_and (twos_of x * 103 / 1024) 4222189076152335

-- what is low in a block stays under a mask: by hundreds in 32 bits, by tens in 16
mask_hundreds : (x m p q : ℕ) → p < 128 → q < 1048576 → bit_and (x * 4294967296 + (q * 4096 + p)) (m * 4294967296 + 127) ≡ bit_and x m * 4294967296 + p
mask_hundreds x m p q h k =
    let e : (q * 4096 + p) % 128 ≡ p = omega arith in
    and_block 32 x m (q * 4096 + p) 127 (omega arith) (lit< tt) ∙ rw (and_mask (q * 4096 + p) 7, e)

mask_tens : (x m p q : ℕ) → p < 16 → q < 1024 → bit_and (x * 65536 + (q * 64 + p)) (m * 65536 + 15) ≡ bit_and x m * 65536 + p
mask_tens x m p q h k =
    let e : (q * 64 + p) % 16 ≡ p = omega arith in
    and_block 16 x m (q * 64 + p) 15 (omega arith) (lit< tt) ∙ rw (and_mask (q * 64 + p) 4, e)

-- a, b < 10,000 in blocks of 32 bits, each over 100, by its quotient and remainder
hundreds : (a b c d : ℕ) → a ≤ 99 → b ≤ 99 → c ≤ 99 → d ≤ 99 → (v : ℕ) → v ≡ (c * 100 + d) * 4294967296 + (a * 100 + b)
    → bit_and (v * 10486 / 1048576) 545460846719 ≡ c * 4294967296 + a
hundreds a b c d ha hb hc hd v s =
    let k : v * 10486 / 1048576 ≡ (0 * 4294967296 + (0 * 4096 + c)) * 4294967296 + ((c * 24 + d * 10486) * 4096 + a) = omega arith in
    rw (k, mask_hundreds _ 127 a (c * 24 + d * 10486) (omega arith) (omega arith), mask_hundreds 0 0 c 0 (omega arith) (omega arith), and_zero_l 0, zero-add)

-- four numbers below 100 in blocks of 16 bits, each over 10
tens : (a b c d e f g h : ℕ) → a ≤ 9 → b ≤ 9 → c ≤ 9 → d ≤ 9 → e ≤ 9 → f ≤ 9 → g ≤ 9 → h ≤ 9 → (v : ℕ)
    → v ≡ (((g * 10 + h) * 65536 + (e * 10 + f)) * 65536 + (c * 10 + d)) * 65536 + (a * 10 + b)
    → bit_and (v * 103 / 1024) 4222189076152335 ≡ ((g * 65536 + e) * 65536 + c) * 65536 + a
tens a b c d e f g h ha hb hc hd he hf hg hh v s =
    let k : v * 103 / 1024
    ≡ (((0 * 65536 + (0 * 64 + g)) * 65536 + ((g * 6 + h * 103) * 64 + e)) * 65536 + ((e * 6 + f * 103) * 64 + c)) * 65536 + ((c * 6 + d * 103) * 64 + a) = omega arith in
    rw (k, mask_tens _ 64425492495 a (c * 6 + d * 103) (omega arith) (omega arith), mask_tens _ 983055 c (e * 6 + f * 103) (omega arith) (omega arith), mask_tens _ 15 e (g * 6 + h * 103) (omega arith) (omega arith), mask_tens 0 0 g 0 (omega arith) (omega arith), and_zero_l 0, zero-add)

-- ---- a number x by its eight digits, and their bytes' number w

pub record Digits (x w : ℕ) : Type 0 where
  a : ℕ
  b : ℕ
  c : ℕ
  d : ℕ
  e : ℕ
  f : ℕ
  g : ℕ
  h : ℕ
  la : a ≤ 9
  lb : b ≤ 9
  lc : c ≤ 9
  ld : d ≤ 9
  le : e ≤ 9
  lf : f ≤ 9
  lg : g ≤ 9
  lh : h ≤ 9
  is : x ≡ (((((((0 + a) * 10 + b) * 10 + c) * 10 + d) * 10 + e) * 10 + f) * 10 + g) * 10 + h
  word : w ≡ (((((((0 + h) * 256 + g) * 256 + f) * 256 + e) * 256 + d) * 256 + c) * 256 + b) * 256 + a + 3472328296227680304

eight_of_lem : (ds : List ℕ) → length ds ≡ 8 → all_digits ds ≡ true → Digits (value_of ds) (word_of ds)
unfolding value_from off_of
eight_of_lem ds l t =
    let e = eight_are ds l in
    record {
      a = get_or ds 0 0 - 48;
      b = get_or ds 1 0 - 48;
      c = get_or ds 2 0 - 48;
      d = get_or ds 3 0 - 48;
      e = get_or ds 4 0 - 48;
      f = get_or ds 5 0 - 48;
      g = get_or ds 6 0 - 48;
      h = get_or ds 7 0 - 48;
      la = nine ds t 0 (omega arith);
      lb = nine ds t 1 (omega arith);
      lc = nine ds t 2 (omega arith);
      ld = nine ds t 3 (omega arith);
      le = nine ds t 4 (omega arith);
      lf = nine ds t 5 (omega arith);
      lg = nine ds t 6 (omega arith);
      lh = nine ds t 7 (omega arith);
      is = ap value_of e;
      word = sym (rw l at (off_is ds t)) ∙ ap (λ (l : List ℕ). off_of l + 3472328296227680304) e;
    }

-- of any number its last eight
pub digits : (x : ℕ) → Digits (x % 100000000) (word_of (last_digits 8 x))
digits x =
    let h : x % 100000000 < 10 ^ 8 = omega arith in
    let e : value_of (last_digits 8 x) ≡ x % 100000000 = ap value_of (sym (digits_mod 8 x)) ∙ digits_value 8 (x % 100000000) h in
    rw e at (eight_of_lem (last_digits 8 x) (digits_length 8 x) (digits_all 8 x))

module _ (x w : ℕ) (q : Digits x w) where
  fours_is : fours_of x ≡ (((q.e * 10 + q.f) * 100 + (q.g * 10 + q.h)) * 4294967296 + ((q.a * 10 + q.b) * 100 + (q.c * 10 + q.d)))
  fours_is =
      let k : x / 10000 ≡ (q.a * 10 + q.b) * 100 + (q.c * 10 + q.d) = omega arith in
      let l : x % 10000 ≡ (q.e * 10 + q.f) * 100 + (q.g * 10 + q.h) = omega arith in
      omega arith

  high_is : high_of x ≡ (q.e * 10 + q.f) * 4294967296 + (q.a * 10 + q.b)
  high_is = hundreds (q.a * 10 + q.b) (q.c * 10 + q.d) (q.e * 10 + q.f) (q.g * 10 + q.h) (omega arith) (omega arith) (omega arith) (omega arith) (fours_of x) fours_is

  twos_is : twos_of x ≡ (((q.g * 10 + q.h) * 65536 + (q.e * 10 + q.f)) * 65536 + (q.c * 10 + q.d)) * 65536 + (q.a * 10 + q.b)
  twos_is = rw (high_is, fours_is) (omega arith)

  tens_is : tens_of x ≡ ((q.g * 65536 + q.e) * 65536 + q.c) * 65536 + q.a
  tens_is = tens q.a q.b q.c q.d q.e q.f q.g q.h q.la q.lb q.lc q.ld q.le q.lf q.lg q.lh (twos_of x) twos_is

  pub ones_is : tens_of x + (twos_of x - tens_of x * 10) * 256 + 3472328296227680304 ≡ w
  ones_is = rw (tens_is, twos_is) (omega arith)

-- so of any number the steps make its last eight digits, and nothing wraps
module _ (x : ℕ) where
  pub spelled_is : tens_of (x % 100000000) + (twos_of (x % 100000000) - tens_of (x % 100000000) * 10) * 256 + 3472328296227680304 ≡ word_of (last_digits 8 x)
  spelled_is = ones_is (x % 100000000) _ (digits x)

  pub fours_lt : fours_of (x % 100000000) < 42949672960000
  fours_lt = let q = digits x in rw (fours_is _ _ q) (omega arith)

  pub high_le : high_of (x % 100000000) * 100 ≤ fours_of (x % 100000000)
  high_le = let q = digits x in rw (high_is _ _ q, fours_is _ _ q) (omega arith)

  pub twos_lt : twos_of (x % 100000000) < 28147497671065600
  twos_lt = let q = digits x in rw (twos_is _ _ q) (omega arith)

  pub tens_lt : tens_of (x % 100000000) < 2814749767106560
  tens_lt = let q = digits x in rw (tens_is _ _ q) (omega arith)

  pub tens_le : tens_of (x % 100000000) * 10 ≤ twos_of (x % 100000000)
  tens_le = let q = digits x in rw (tens_is _ _ q, twos_is _ _ q) (omega arith)

  pub rest_lt : twos_of (x % 100000000) - tens_of (x % 100000000) * 10 < 2814749767106560
  rest_lt = let q = digits x in rw (tens_is _ _ q, twos_is _ _ q) (omega arith)

-- what each step of the code asks
pub ruleset steps = (spelled_is, fours_lt, high_le, twos_lt, tens_lt, tens_le, rest_lt)
