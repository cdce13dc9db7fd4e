-- Texts beside what they are read as and points beside what they are written as, so that all examples stand in one table
-- under one claim. Assumes nothing.
use Rattle.std.specs.Prelude.{◌≡◌, Bool, ◌⊎◌, List, [], ◌∷◌, ◌++◌, ℕ, ◌*◌, pos, negsuc, length, drop, Result, Ok, Err}
use Rattle.std.proofs.Common.{inl, inr}
use Prim.Native.String.{String}
use Rattle.whole.specs.Text.{bytes}
use Rattle.position.specs.declared.Position.{Position}
use Rattle.position.specs.Squares.{south_west}
use Rattle.reader.specs.Read.{read_of}
use Rattle.writer.specs.Write.{write_of, write_leaves}
use Rattle.laws.specs.Trips.{write_at, leaves_at}
use Rattle.rules.specs.declared.Refusal.{Refusal}
use Rattle.reader.specs.declared.Reading.{Reading}
use Rattle.reader.specs.declared.Reading.TheVariants.{Square, Bare}

-- A square of zone, north, band, p, and easting and northing in centimetres: 20,000 units to each.
abbrev pub square : ℕ → Bool → ℕ → ℕ → ℕ → ℕ → Result (Reading Position) Refusal
square zone north band p e n = Ok (Square (record {
  zone = pos zone;
  north = north;
  band = band;
  p = pos p;
  easting = pos (e * 20000);
  northing = pos (n * 20000);
}))

-- A bare zone, its point in metres.
abbrev pub bare : ℕ → Bool → ℕ → ℕ → ℕ → Result (Reading Position) Refusal
bare zone north band e n = Ok (Bare (record {
  zone = pos zone;
  north = north;
  band = band;
  p = negsuc 0;
  easting = pos (e * 2000000);
  northing = pos (n * 2000000);
}))

-- What an example comes to: an answer of reading, or one of writing beside what the buffer then holds.
abbrev pub Outcome : Type 0
Outcome = Result (Reading Position) Refusal ⊎ (Result ℕ Refusal × List ℕ)

-- What the definitions give, and what document 01 says.
abbrev pub Example : Type 0
Example = Outcome × Outcome

-- A text and what it is read as.
abbrev pub reads : String → Result (Reading Position) Refusal → Example
reads text answer = (inl (read_of (bytes text)), inl answer)

-- The buffer of the examples: twenty bytes, so that those beyond a text are seen to stay.
abbrev pub dots : List ℕ
dots = bytes "...................."

abbrev pub text_in_dots : String → Outcome
text_in_dots text = inr (Ok (length (bytes text)), bytes text ++ drop (length (bytes text)) dots)

-- A point of zone, north, p, easting and northing in metres and band, and what it is written as.
abbrev pub writes : ℕ → Bool → ℕ → ℕ → ℕ → ℕ → String → Example
writes zone north p e n band text =
    let easting = pos (e * 2000000) in
    let northing = pos (n * 2000000) in (
      inr (write_of (pos zone) north band (pos p) easting northing (length dots), write_leaves (pos zone) north band (pos p) easting northing dots),
      text_in_dots text,
    )

-- What is read, written again: a square from its south-west corner, a bare zone from its point.
abbrev pub again : Position → Outcome
again q = inr (write_at q (length dots), leaves_at q dots)

abbrev pub rewritten : Result (Reading Position) Refusal → Outcome
rewritten (Ok (Square q)) = again (south_west q)
rewritten (Ok (Bare q)) = again q
rewritten (Err n) = inl (Err n)

-- A text and its canonical form.
abbrev pub returns : String → String → Example
returns text canonical = (rewritten (read_of (bytes text)), text_in_dots canonical)

-- The claim: every example of the table comes to what the table says.
abbrev pub All : List Example → Type 0
All [] = Unit {0}
All (x ∷ xs) = (x.0 ≡ x.1) × All xs
