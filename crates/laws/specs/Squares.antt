-- What shortening writes, and what a reference covers: document 01, "Smaller services". Assumes nothing.
use Rattle.std.specs.Prelude.{◌≡◌, List, ◌∷◌, ◌++◌, ℕ, ◌≤◌, pos, length, take, drop, Ok}
use Rattle.head.specs.declared.Head.{Head}
use Rattle.head.specs.Head.{letter_in, head_of}
use Rattle.writer.specs.Text.{head_text}
use Rattle.squares.specs.Shorten.{short_of, short_leaves}
use Rattle.laws.specs.Sound.{rest_of}

-- "Otherwise it writes the corner at q": the text's zone and letters, in capitals, and of its p digits on each axis the first q.
abbrev pub short_text : List ℕ → Head → ℕ → ℕ → List ℕ
short_text s head p q =
    let rest = rest_of s head in
    let digits = drop 2 rest in
    head_text head.zone head.band ++ (letter_in rest 0 ∷ letter_in rest 1 ∷ (take q digits ++ take q (drop p digits)))

-- In every buffer with room that is what shortening writes: it "never meets 14 to 19".
pub record Shortens (s : List ℕ) (p q : ℕ) : Type 0 where
  pub head : Head
  pub zone_and_band : head_of s ≡ Ok head
  pub answer : (l : List ℕ) → length (short_text s head p q) ≤ length l → short_of s (pos q) (length l) ≡ Ok (length (short_text s head p q))
  pub buffer : (l : List ℕ) → length (short_text s head p q) ≤ length l → short_leaves s (pos q) l ≡ short_text s head p q ++ drop (length (short_text s head p q)) l
