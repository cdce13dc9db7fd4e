-- Eight digits as one number: joined by twos, fours and eights they are the number that they spell. Assumes nothing.
use mathlib.Core.Path.{◌≡◌, refl, sym, ap, ◌∙◌}
use mathlib.Core.Bool.{true}
use mathlib.Core.List.{List, [], ◌∷◌}
use Prim.Native.Nat.{ℕ, zero, suc, ◌+◌, ◌-◌, ◌*◌, ◌/◌, ◌%◌, ◌^◌, ◌≤◌, ◌<◌}
use native.Mathlib.Nat.{div-one, pow-suc, pow-succ', mul_assoc, mod-eq_of_lt, mul-add-mod_self_right, mul-add-div_right, div-eq_of_lt, zero-add, add-zero, add-mul}
use native.Mathlib.Omega.{arith}
use lib.Bits.{bit_and, and_block, and_mask, and_zero_l}
use lib.Dec.{lit<}
use lib.ListN.{length, get_or, take, drop, length-take, length-drop}
use lib.Seq.{take-add, drop-drop, take_all, take-take}
use Rattle.whole.proofs.Table.{alike}
use Rattle.whole.proofs.Powers.{ten_le}
use Rattle.words.specs.Bytes.{is_digit, all_digits}
use Rattle.runs.specs.Runs.{value_from, value_of}
use Rattle.words.specs.Words.{word_of, first_word}
use Rattle.words.specs.inner.Flags.{repeated}
use Rattle.runs.specs.inner.Eight.{eight_of}
use Rattle.words.proofs.Laws.{word_eight, digit_range, digit_at, all_head, all_tail, all_front, all_part}
use Rattle.runs.proofs.Laws.{number_lt}
use Rattle.words.proofs.Words.{eight_are}
use Rattle.runs.proofs.Decimals.{value_append}

-- ---- two bytes under a mask: the lower one stays. The same of twice as many bits

mask_byte : (x m p q : ℕ) → p < 256 → q < 256 → bit_and (x * 65536 + (q * 256 + p)) (m * 65536 + 255) ≡ bit_and x m * 65536 + p
mask_byte x m p q h k =
    let e : (q * 256 + p) % 256 ≡ p = omega arith in
    and_block 16 x m (q * 256 + p) 255 (omega arith) (lit< tt) ∙ rw (and_mask (q * 256 + p) 8, e)

mask_two : (x m p q : ℕ) → p < 65536 → q < 65536 → bit_and (x * 4294967296 + (q * 65536 + p)) (m * 4294967296 + 65535) ≡ bit_and x m * 4294967296 + p
mask_two x m p q h k =
    let e : (q * 65536 + p) % 65536 ≡ p = omega arith in
    and_block 32 x m (q * 65536 + p) 65535 (omega arith) (lit< tt) ∙ rw (and_mask (q * 65536 + p) 16, e)

-- ---- the three steps, of values below 10, 100 and 10,000 in blocks of 8, 16 and 32 bits, the first the lowest

twos : (a b c d e f g h : ℕ) → a ≤ 9 → b ≤ 9 → c ≤ 9 → d ≤ 9 → e ≤ 9 → f ≤ 9 → g ≤ 9 → h ≤ 9 → (w : ℕ)
    → w ≡ (((((((0 + h) * 256 + g) * 256 + f) * 256 + e) * 256 + d) * 256 + c) * 256 + b) * 256 + a
    → bit_and (w * 10 + w / 256) 71777214294589695 ≡ (((g * 10 + h) * 65536 + (e * 10 + f)) * 65536 + (c * 10 + d)) * 65536 + (a * 10 + b)
twos a b c d e f g h ha hb hc hd he hf hg hh w s =
    let k : w * 10 + w / 256
    ≡ (((0 * 65536 + (h * 10 * 256 + (g * 10 + h))) * 65536 + ((f * 10 + g) * 256 + (e * 10 + f))) * 65536 + ((d * 10 + e) * 256 + (c * 10 + d))) * 65536 + ((b * 10 + c) * 256 + (a * 10 + b)) = omega arith in
    rw (k, mask_byte _ 1095233372415 (a * 10 + b) (b * 10 + c) (omega arith) (omega arith), mask_byte _ 16711935 (c * 10 + d) (d * 10 + e) (omega arith) (omega arith), mask_byte _ 255 (e * 10 + f) (f * 10 + g) (omega arith) (omega arith), mask_byte 0 0 (g * 10 + h) (h * 10) (omega arith) (omega arith), and_zero_l 0, zero-add)

fours : (a b c d : ℕ) → a ≤ 99 → b ≤ 99 → c ≤ 99 → d ≤ 99 → (w : ℕ) → w ≡ ((d * 65536 + c) * 65536 + b) * 65536 + a
    → bit_and (w * 100 + w / 65536) 281470681808895 ≡ (c * 100 + d) * 4294967296 + (a * 100 + b)
fours a b c d ha hb hc hd w s =
    let k : w * 100 + w / 65536 ≡ (0 * 4294967296 + (d * 100 * 65536 + (c * 100 + d))) * 4294967296 + ((b * 100 + c) * 65536 + (a * 100 + b)) = omega arith in
    rw (k, mask_two _ 65535 (a * 100 + b) (b * 100 + c) (omega arith) (omega arith), mask_two 0 0 (c * 100 + d) (d * 100) (omega arith) (omega arith), and_zero_l 0, zero-add)

eights : (a b : ℕ) → a < 10000 → b < 10000 → (w : ℕ) → w ≡ b * 4294967296 + a → bit_and w 65535 * 10000 + w / 4294967296 ≡ a * 10000 + b
eights a b ha hb w s =
    let q : w / 4294967296 ≡ b = omega arith in
    let m : w % 65536 ≡ a = omega arith in
    rw (and_mask w 16, q, m)

eight_values : (a b c d e f g h : ℕ) → a ≤ 9 → b ≤ 9 → c ≤ 9 → d ≤ 9 → e ≤ 9 → f ≤ 9 → g ≤ 9 → h ≤ 9 → (w : ℕ)
    → w ≡ (((((((0 + h) * 256 + g) * 256 + f) * 256 + e) * 256 + d) * 256 + c) * 256 + b) * 256 + a
    → eight_of w ≡ (((((((0 + a) * 10 + b) * 10 + c) * 10 + d) * 10 + e) * 10 + f) * 10 + g) * 10 + h
unfolding eight_of
eight_values a b c d e f g h ha hb hc hd he hf hg hh w s =
    let k = twos a b c d e f g h ha hb hc hd he hf hg hh w s in
    let l = fours (a * 10 + b) (c * 10 + d) (e * 10 + f) (g * 10 + h) (omega arith) (omega arith) (omega arith) (omega arith) _ k in
    eights ((a * 10 + b) * 100 + (c * 10 + d)) ((e * 10 + f) * 100 + (g * 10 + h)) (omega arith) (omega arith) _ l ∙ omega arith

-- ---- digits as one number, 48 off each byte

unfoldable pub off_of : List ℕ → ℕ
off_of [] = 0
off_of (d ∷ ds) = off_of ds * 256 + (d - 48)

-- it is the bytes' number less a zero in each place
pub off_is : (ds : List ℕ) → all_digits ds ≡ true → off_of ds + repeated 48 (length ds) ≡ word_of ds
unfolding off_of word_of
off_is [] t = refl
off_is (d ∷ ds) t =
    let r = digit_range d (all_head d ds t) in
    omega (arith, off_is ds (all_tail d ds t))

-- and no digit is more than 9
pub off_le : (ds : List ℕ) → all_digits ds ≡ true → off_of ds ≤ repeated 9 (length ds)
unfolding off_of
off_le [] t = omega arith
off_le (d ∷ ds) t =
    let r = digit_range d (all_head d ds t) in
    omega (arith, off_le ds (all_tail d ds t))

pub nine : (ds : List ℕ) → all_digits ds ≡ true → (i : ℕ) → i < length ds → get_or ds i 0 - 48 ≤ 9
nine ds t i h = omega (arith, digit_range (get_or ds i 0) (digit_at ds i t h))

-- eight digits
pub eight_is : (ds : List ℕ) → length ds ≡ 8 → all_digits ds ≡ true → eight_of (off_of ds) ≡ value_of ds
unfolding off_of value_from
eight_is ds l t =
    let e = eight_are ds l in
    ap (λ (x : List ℕ). eight_of (off_of x)) e
    ∙ eight_values _ _ _ _ _ _ _ _ (nine ds t 0 (omega arith)) (nine ds t 1 (omega arith)) (nine ds t 2 (omega arith)) (nine ds t 3 (omega arith)) (nine ds t 4 (omega arith)) (nine ds t 5 (omega arith)) (nine ds t 6 (omega arith)) (nine ds t 7 (omega arith)) _ refl
    ∙ ap value_of (sym e)

-- ---- some of the eight: the others are shifted out, or become zeros in front

-- zeros in front
unfoldable padded : ℕ → List ℕ → List ℕ
padded zero ds = ds
padded (suc n) ds = 48 ∷ padded n ds

padded_length : (n : ℕ) (ds : List ℕ) → length (padded n ds) ≡ n + length ds
unfolding padded
padded_length zero ds = sym (zero-add _)
padded_length (suc n) ds = omega (arith, padded_length n ds)

padded_all : (n : ℕ) (ds : List ℕ) → all_digits ds ≡ true → all_digits (padded n ds) ≡ true
unfolding padded all_digits is_digit
padded_all zero ds t = t
padded_all (suc n) ds t = padded_all n ds t

padded_value : (n : ℕ) (ds : List ℕ) → value_of (padded n ds) ≡ value_of ds
unfolding padded value_from
padded_value zero ds = refl
padded_value (suc n) ds = padded_value n ds

padded_off : (n : ℕ) (ds : List ℕ) → off_of (padded n ds) ≡ off_of ds * 256 ^ n
unfolding padded off_of
padded_off zero ds = omega arith
padded_off (suc n) ds = rw (padded_off n ds, pow-suc 256 n, ← mul_assoc (off_of ds) (256 ^ n) 256) (omega arith)

-- n digits are n bytes
off_lt : (ds : List ℕ) → all_digits ds ≡ true → off_of ds < 256 ^ length ds
unfolding off_of
off_lt [] t = omega arith
off_lt (d ∷ ds) t =
    let r = digit_range d (all_head d ds t) in
    rw (pow-suc 256 (length ds)) (omega (arith, off_lt ds (all_tail d ds t)))

-- the n lowest, and those above them
off_split : (n : ℕ) (ds : List ℕ) → off_of ds ≡ off_of (drop n ds) * 256 ^ n + off_of (take n ds)
unfolding off_of
off_split zero ds = omega arith
off_split (suc n) [] = omega arith
off_split (suc n) (d ∷ ds) = rw (pow-suc 256 n, ← mul_assoc (off_of (drop n ds)) (256 ^ n) 256) (omega (arith, off_split n ds))

-- shifted up, and what passes the end is lost; shifted down
up : (d t u v : ℕ) → t * v < u * v → (d * u + t) * v % (u * v) ≡ t * v
up d t u v h = rw (add-mul (d * u) t v, mul_assoc d u v, mul-add-mod_self_right d (u * v) (t * v)) (mod-eq_of_lt h)

down : (d t v : ℕ) → 0 < v → t < v → (d * v + t) / v ≡ d
down d t v p h = rw (mul-add-div_right p d t, div-eq_of_lt h, add-zero d)

-- the bits of so many bytes, and of those that they leave of eight
bits : (n : ℕ) → n ≤ 8 → 2 ^ (8 * n) ≡ 256 ^ n
bits n h = alike (λ n. 2 ^ (8 * n)) (λ n. 256 ^ n) 9 refl 0 n (omega arith)

bits_left : (n : ℕ) → n ≤ 8 → 2 ^ (64 - 8 * n) ≡ 256 ^ (8 - n)
bits_left n h = alike (λ n. 2 ^ (64 - 8 * n)) (λ n. 256 ^ (8 - n)) 9 refl 0 n (omega arith)

whole : (n : ℕ) → n ≤ 8 → 256 ^ n * 256 ^ (8 - n) ≡ 18446744073709551616
whole n h = alike (λ n. 256 ^ n * 256 ^ (8 - n)) (λ n. 18446744073709551616) 9 refl 0 n (omega arith)

-- digits with zeros in front, eight in all
module _ (es : List ℕ) (j : ℕ) (k : j + length es ≡ 8) (a : all_digits es ≡ true) where
  padded_lt : off_of es * 256 ^ j < 18446744073709551616
  padded_lt = rw (padded_length j es, k, padded_off j es) at (off_lt (padded j es) (padded_all j es a))

  padded_le : off_of es * 256 ^ j ≤ 651061555542690057
  padded_le = rw (padded_length j es, k, padded_off j es) at (off_le (padded j es) (padded_all j es a))

  padded_is : eight_of (off_of es * 256 ^ j) ≡ value_of es
  padded_is = rw (padded_off j es, padded_value j es) at (eight_is (padded j es) (padded_length j es ∙ k) (padded_all j es a))

-- n of eight digits from the place i on
off_word : (ds : List ℕ) → length ds ≡ 8 → all_digits ds ≡ true → first_word ds ≡ off_of ds + 3472328296227680304
off_word ds l t = word_eight ds l ∙ sym (rw l at (off_is ds t))

pub above : (ds : List ℕ) → length ds ≡ 8 → all_digits ds ≡ true → 3472328296227680304 ≤ first_word ds
above ds l t = omega (arith, off_word ds l t)

module _ (ds : List ℕ) (i n : ℕ) (l : length ds ≡ 8) (t : all_digits ds ≡ true) (h : i + n ≤ 8) where
  shifted_down : (first_word ds - 3472328296227680304) / 2 ^ (8 * i) ≡ off_of (drop i ds)
  shifted_down =
      let less : first_word ds - 3472328296227680304 ≡ off_of ds = omega (arith, off_word ds l t) in
      let k : length (take i ds) ≡ i = simp length-take (omega arith) in
      let lt : off_of (take i ds) < 256 ^ i = rw k at (off_lt (take i ds) (all_front ds i t)) in
      rw (less, bits i (omega arith), off_split i ds) (down _ _ _ (omega (arith, lt)) lt)

  part_long : (8 - n) + length (take n (drop i ds)) ≡ 8
  part_long = simp (length-take, length-drop) (omega arith)

  shifted : (first_word ds - 3472328296227680304) / 2 ^ (8 * i) * 2 ^ (64 - 8 * n) % 18446744073709551616 ≡ off_of (take n (drop i ds)) * 256 ^ (8 - n)
  shifted =
      let m = whole n (omega arith) in
      let lt : off_of (take n (drop i ds)) * 256 ^ (8 - n) < 256 ^ n * 256 ^ (8 - n) = rw m (padded_lt _ _ part_long (all_part ds i n t)) in
      rw (shifted_down, bits_left n (omega arith), off_split n (drop i ds))
      (rw m at (up (off_of (drop n (drop i ds))) (off_of (take n (drop i ds))) (256 ^ n) (256 ^ (8 - n)) lt))

  pub part_le : (first_word ds - 3472328296227680304) / 2 ^ (8 * i) * 2 ^ (64 - 8 * n) % 18446744073709551616 ≤ 651061555542690057
  part_le = rw shifted (padded_le _ _ part_long (all_part ds i n t))

  pub part_is : eight_of ((first_word ds - 3472328296227680304) / 2 ^ (8 * i) * 2 ^ (64 - 8 * n) % 18446744073709551616) ≡ value_of (take n (drop i ds))
  part_is = rw shifted (padded_is _ _ part_long (all_part ds i n t))

pub ruleset parts = (above, part_le, part_is)

-- so the first or the last n of eight digits, from their bytes' number w
module _ (ds : List ℕ) (n w : ℕ) (l : length ds ≡ 8) (t : all_digits ds ≡ true) (h : n ≤ 8) (e : w ≡ word_of ds) where
  pub first_is : eight_of ((w - 3472328296227680304) * 2 ^ (64 - 8 * n) % 18446744073709551616) ≡ value_of (take n ds)
  first_is = rw (e ∙ sym (word_eight ds l)) (rw div-one at (part_is ds 0 n l t (omega arith)))

  pub last_is : eight_of ((w - 3472328296227680304) / 2 ^ (64 - 8 * n) * 2 ^ (64 - 8 * n) % 18446744073709551616) ≡ value_of (drop (8 - n) ds)
  last_is =
      let i : 8 * (8 - n) ≡ 64 - 8 * n = omega arith in
      let a : take n (drop (8 - n) ds) ≡ drop (8 - n) ds = take_all n (drop (8 - n) ds) (omega (arith, length-drop (8 - n) ds)) in
      rw (e ∙ sym (word_eight ds l)) (rw (i, a) at (part_is ds (8 - n) n l t (omega arith)))

-- ---- more than eight

value_after : (ds : List ℕ) (a : ℕ) → value_from a ds ≡ a * 10 ^ length ds + value_of ds
unfolding value_from
value_after [] a = omega arith
value_after (d ∷ ds) a =
    rw (value_after ds (a * 10 + (d - 48)), value_after ds (0 * 10 + (d - 48)), pow-succ' 10 (length ds), ← mul_assoc a 10 (10 ^ length ds), add-mul (a * 10) (d - 48) (10 ^ length ds)) (omega arith)

module _ (s : List ℕ) (n : ℕ) (h : n + 8 ≤ length s) (m : n ≤ 3) (t : all_digits (take (n + 8) s) ≡ true) where
  pub long_is : value_of (take n (take 8 s)) * 100000000 + value_of (take 8 (take 8 (drop n s))) ≡ value_of (take (n + 8) s)
  long_is =
      let k : length (take 8 (drop n s)) ≡ 8 = simp (length-take, length-drop) (omega arith) in
      rw
      (take-take n 8 s (omega arith), take-take 8 8 (drop n s) (omega arith), take-add n 8 s, value_append (take n s) (take 8 (drop n s)) 0, value_after (take 8 (drop n s)) (value_of (take n s)), k)

-- of nine to eleven digits, and they never wrap
module _ (s : List ℕ) (h : 8 < length s) (m : length s ≤ 11) (t : all_digits s ≡ true) where
  pub all_long_is : value_of (take (length s - 8) (take 8 s)) * 100000000 + value_of (take 8 (take 8 (drop (length s - 8) s))) ≡ value_of s
  all_long_is =
      let n = length s - 8 in
      let a : take (n + 8) s ≡ s = take_all (n + 8) s (omega arith) in
      rw a at (long_is s n (omega arith) (omega arith) (all_front s (n + 8) t))

  pub all_long_lt : value_of (take (length s - 8) (take 8 s)) * 100000000 + value_of (take 8 (take 8 (drop (length s - 8) s))) < 100000000000
  all_long_lt = rw all_long_is (omega (arith, number_lt s t, ten_le (length s) m))

pub ruleset longs = (all_long_is, all_long_lt)

-- the first n and the last n of twice n, of the first eight and the last eight where these are enough
module _ (s : List ℕ) (n : ℕ) where
  pub front : n ≤ 8 → take n (take 8 s) ≡ take n s
  front h = take-take n 8 s h

  module _ (e : length s ≡ n + n) where
    pub back : take n (drop n s) ≡ drop n s
    back = take_all n (drop n s) (omega (arith, length-drop n s))

    pub overlapped : n ≤ 8 → 4 ≤ n → take n (drop (8 - n) (take 8 (drop (n + n - 8) s))) ≡ drop n s
    overlapped h g =
        let k : n + n - 8 + (8 - n) ≡ n = omega arith in
        rw (take_all 8 (drop (n + n - 8) s) (omega (arith, length-drop (n + n - 8) s)), drop-drop (8 - n) (n + n - 8) s, k) back

pub ruleset halves = (front, back, overlapped)
