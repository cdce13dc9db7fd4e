-- How the bytes of a word are tested all at once. No public answer speaks of this: that the test is that of each byte is proved.
-- Assumes nothing.
use Rattle.std.specs.Prelude.{◌≡◌, Bool, not, List, ℕ, zero, suc, ◌+◌, ◌*◌, ◌<◌, eqb, length, slice_index}
use Rattle.std.specs.Int.Bits.{bit_and, bit_or, bit_xor}
use Rattle.std.specs.List.{list_any}
use Rattle.words.specs.Bytes.{is_digit}
use Rattle.words.specs.Words.{word_of}

-- The same byte n times.
abbrev pub repeated : ℕ → ℕ → ℕ
repeated c zero = 0
repeated c (suc n) = repeated c n * 256 + c

-- A byte that is no digit.
abbrev pub no_digit : ℕ → Bool
no_digit b = not (is_digit b)

-- Of n bytes, a byte of 128 or more for each that is no digit.
unfoldable pub others_of : ℕ → ℕ → ℕ
others_of n w = bit_or (bit_and (bit_xor w (repeated 48 n)) (repeated 127 n) + repeated 118 n) (bit_xor w (repeated 48 n))

-- Of the number of eight bytes, f has a bit of 128 exactly if p is true of one.
abbrev pub Tells : (ℕ → ℕ) → (ℕ → Bool) → Type 0
Tells f p = (bs : List ℕ) → length bs ≡ 8 → ((i : ℕ) → slice_index bs i < 256) → not (eqb (bit_and (f (word_of bs)) (repeated 128 8)) 0) ≡ list_any p bs
