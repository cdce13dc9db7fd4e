-- Bytes as one number. Assumes nothing.
use Rattle.std.specs.Prelude.{cond, List, [], ◌∷◌, ℕ, ◌+◌, ◌*◌, ltb, length, take}

-- Bytes as one number, the first the lowest.
unfoldable pub word_of : List ℕ → ℕ
word_of [] = 0
word_of (b ∷ bs) = word_of bs * 256 + b

-- The first eight bytes, 0 where there are fewer.
unfoldable pub first_word : List ℕ → ℕ
first_word s = cond (ltb (length s) 8) 0 (word_of (take 8 s))
