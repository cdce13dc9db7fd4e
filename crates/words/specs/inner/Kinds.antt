-- Of the two kinds of bytes that are looked for, that their flags in a word tell them. Assumes nothing.
use Rattle.std.specs.Prelude.{◌≡◌, Bool, true, false, cond, not, ◌||◌, List, [], ◌∷◌, ℕ, suc, ◌+◌, ◌*◌, ◌<◌, eqb, ltb, length, slice_index, refl}
use Rattle.std.specs.Int.Bits.{bit_and, bit_xor}
use Rattle.std.specs.List.{list_any}
use mathlib.Core.Bool.{not-not}
use Rattle.std.proofs.Common.{ap, ◌∙◌, arith}
use borrow.Author.Tests.{eq-eqb, ne_eqb, eqb-true, eqb-false, ltb-true}
use lib.Bits.{and_block, or_block, xor_block, and_le_r, xor_lt}
use lib.Dec.{lit<}
use Rattle.whole.proofs.Table.{alike}
use Rattle.words.specs.Bytes.{high, is_digit}
use Rattle.words.specs.Words.{word_of}
use Rattle.words.specs.inner.Flags.{repeated, no_digit, others_of, Tells}

-- a number whose lowest byte is a flag
flag_by : (u v : Bool) (x : ℕ) → eqb x 0 ≡ not v → eqb (x * 256 + cond u 128 0) 0 ≡ not (u || v)
flag_by true v x e = ne_eqb (x * 256 + 128) 0 (λ h. omega arith)
flag_by false true x e = let k = eqb-false x 0 e in ne_eqb (x * 256 + 0) 0 (λ h. k (omega arith))
flag_by false false x e = let k = eqb-true x 0 e in eq-eqb (x * 256 + 0) 0 (omega arith)

-- where F takes the bytes of a word one by one, each by g, and g flags those of which p is true
module _
    (p : ℕ → Bool)
    (g : ℕ → ℕ)
    (F : ℕ → ℕ → ℕ)
    (base : F 0 0 ≡ 0)
    (step : (n w b : ℕ) → b < 256 → F (suc n) (w * 256 + b) ≡ F n w * 256 + g b)
    (small : (b : ℕ) → b < 256 → g b < 256)
    (flag : (b : ℕ) → b < 256 → bit_and (g b) 128 ≡ cond (p b) 128 0) where
  flagged : (bs : List ℕ) → ((i : ℕ) → slice_index bs i < 256) → eqb (bit_and (F (length bs) (word_of bs)) (repeated 128 (length bs))) 0 ≡ not (list_any p bs)
  unfolding word_of
  flagged [] h = rw base
  flagged (b ∷ bs) h =
      let lt = h 0 in
      rw (step (length bs) (word_of bs) b lt, and_block 8 (F (length bs) (word_of bs)) (repeated 128 (length bs)) (g b) 128 (small b lt) (lit< tt), flag b lt)
      (flag_by (p b) (list_any p bs) _ (flagged bs (λ i. h (suc i))))

  -- so F of eight bytes tells them
  flags_tell : Tells (F 8) p
  flags_tell bs e h = ap not (rw e at (flagged bs h)) ∙ not-not (list_any p bs)

high_flag : (b : ℕ) → b < 256 → bit_and b 128 ≡ cond (high b) 128 0
high_flag b h = alike (λ b. bit_and b 128) (λ b. cond (high b) 128 0) 256 refl 0 b h

pub high_told : Tells (λ w. w) high
high_told = flags_tell high (λ b. b) (λ n w. w) refl (λ n w b k. refl) (λ b k. k) high_flag

digit_flag : (b : ℕ) → b < 256 → bit_and (others_of 1 b) 128 ≡ cond (no_digit b) 128 0
unfolding others_of is_digit
digit_flag b h = alike (λ b. bit_and (others_of 1 b) 128) (λ b. cond (no_digit b) 128 0) 256 refl 0 b h

digit_small : (b : ℕ) → b < 256 → others_of 1 b < 256
unfolding others_of
digit_small b h = ltb-true _ 256 (alike (λ b. ltb (others_of 1 b) 256) (λ b. true) 256 refl true b h)

carried : (x y a b : ℕ) → x * 256 + a + (y * 256 + b) ≡ (x + y) * 256 + (a + b)
carried x y a b = omega arith

digit_step : (n w b : ℕ) → b < 256 → others_of (suc n) (w * 256 + b) ≡ others_of n w * 256 + others_of 1 b
unfolding others_of
digit_step n w b h =
    let x = bit_xor w (repeated 48 n) in
    let y = bit_xor b 48 in
    let lt : y < 256 = xor_lt 8 b 48 h (lit< tt) in
    let le = and_le_r y 127 in
    rw
    (xor_block 8 w (repeated 48 n) b 48 h (lit< tt), and_block 8 x (repeated 127 n) y 127 lt (lit< tt), carried (bit_and x (repeated 127 n)) (repeated 118 n) (bit_and y 127) 118, or_block 8 (bit_and x (repeated 127 n) + repeated 118 n) x (bit_and y 127 + 118) y (omega arith) lt)

no_digit_base : others_of 0 0 ≡ 0
unfolding others_of
no_digit_base = refl

pub no_digit_told : Tells (others_of 8) no_digit
no_digit_told = flags_tell no_digit (others_of 1) others_of no_digit_base digit_step digit_small digit_flag
