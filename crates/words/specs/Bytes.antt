-- High bytes and digits: document 01, "Reading bytes". Assumes nothing.
use Rattle.std.specs.Prelude.{Bool, true, false, cond, ◌&&◌, ◌||◌, List, [], ◌∷◌, ℕ, ltb, leb}
use Prim.Native.Char.{code}

-- "a byte of 128 or more"
abbrev pub high : ℕ → Bool
high b = leb 128 b

-- ".. stands anywhere"
unfoldable pub has_high : List ℕ → Bool
has_high [] = false
has_high (b ∷ bs) = high b || has_high bs

-- 0 to 9
unfoldable pub is_digit : ℕ → Bool
is_digit b = cond (ltb b (code "0")) false (leb b (code "9"))

-- Every byte is a digit.
unfoldable pub all_digits : List ℕ → Bool
all_digits [] = true
all_digits (b ∷ bs) = is_digit b && all_digits bs
