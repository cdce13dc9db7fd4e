-- A text put into a buffer at a place: where the next byte goes, and what the buffer then holds. Assumes nothing.
use Rattle.std.specs.Prelude.{Bool, cond, List, ◌∷◌, ◌++◌, ℕ, ◌+◌, ltb, length, take, drop}
use Prim.Native.Char.{code}
use Rattle.listing.specs.Numerals.{decimal}

-- A text finds no room at a place where it would end behind the buffer's end.
unfoldable pub is_too_long : ℕ → List ℕ → List ℕ → Bool
is_too_long at t l = ltb (length l) (at + length t)

-- The next byte goes behind the text; where there is no room, to the place itself.
unfoldable pub put_end : ℕ → List ℕ → List ℕ → ℕ
put_end at t l = cond (is_too_long at t l) at (at + length t)

-- The buffer holds what it held before the place, the text, and what it held behind the text; where there is no room, what it held.
unfoldable pub put_leaves : ℕ → List ℕ → List ℕ → List ℕ
put_leaves at t l = cond (is_too_long at t l) l (take at l ++ (t ++ drop (at + length t) l))

-- A space and a number in decimal.
unfoldable pub count_text : ℕ → List ℕ
count_text n = code " " ∷ decimal n
