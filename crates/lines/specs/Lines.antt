-- The whole listing, of the whole input: document 01, "Listing program". Assumes nothing.
use Rattle.std.specs.Prelude.{cond, List, [], ◌∷◌, ◌++◌, ℕ, ◌+◌, eqb, Result}
use Rattle.listing.specs.Listing.{line_of}
use Rattle.rules.specs.declared.Refusal.{Refusal}
use Rattle.reader.specs.declared.Reading.{Reading}
use Rattle.position.specs.declared.Position.{Position}

-- A byte that is no LF begins the line that follows it, or is a line by itself where none follows.
unfoldable pub glue : ℕ → List (List ℕ) → List (List ℕ)
glue b [] = (b ∷ []) ∷ []
glue b (l ∷ ls) = (b ∷ l) ∷ ls

-- "lines of standard input ended by LF (an unended last line counts if not empty)"
unfoldable pub lines_of : List ℕ → List (List ℕ)
lines_of [] = []
lines_of (b ∷ s) = cond (eqb b 10) ([] ∷ lines_of s) (glue b (lines_of s))

-- "Each line out": the answers of lines, one after the other, the first under the number n. `line_of` gives 23 for a line
-- over 64 bytes, and else what the reader answers.
unfoldable pub numbered : (List ℕ → Result (Reading Position) Refusal) → ℕ → List (List ℕ) → List ℕ
numbered read n [] = []
numbered read n (l ∷ ls) = line_of read n l ++ numbered read (n + 1) ls

-- "line number": the first line is 1.
unfoldable pub listing_of : (List ℕ → Result (Reading Position) Refusal) → List ℕ → List ℕ
listing_of read s = numbered read 1 (lines_of s)

-- Where the input breaks off, the lines that LF had ended.
unfoldable pub onto : ℕ → List (List ℕ) → List (List ℕ)
onto b [] = []
onto b (l ∷ ls) = (b ∷ l) ∷ ls

unfoldable pub ended : List ℕ → List (List ℕ)
ended [] = []
ended (b ∷ s) = cond (eqb b 10) ([] ∷ ended s) (onto b (ended s))
