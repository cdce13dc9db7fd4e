-- One line of the listing: document 01, "Listing program". Assumes nothing.
use Rattle.std.specs.Prelude.{Bool, cond, List, [], ◌∷◌, ◌++◌, ℕ, ltb, length, Result, Ok, Err}
use Prim.Native.Char.{code}
use Rattle.position.specs.declared.Position.{Position}
use Rattle.reader.specs.Read.{read_of}
use Rattle.listing.specs.declared.Form.{Form}
use Rattle.listing.specs.declared.Form.TheVariants.{Plain}
use Rattle.listing.specs.Numerals.{decimal, signed}
use Rattle.rules.specs.declared.Refusal.{Refusal}
use Rattle.rules.specs.Rules.{number_of}
use Rattle.rules.specs.declared.Refusal.TheVariants.{LongLine}
use Rattle.reader.specs.declared.Reading.{Reading}
use Rattle.reader.specs.declared.Reading.TheVariants.{Square, Bare}

-- "one space stands between fields": a space and a field.
abbrev pub field : List ℕ → List ℕ
field t = code " " ∷ t

abbrev pub letter : ℕ → List ℕ
letter b = field (b ∷ [])

-- "Each line out, ended by LF"
abbrev pub line_feed : List ℕ
line_feed = 10 ∷ []

-- "N or S"
abbrev pub side_letter : Bool → ℕ
side_letter north = cond north (code "N") (code "S")

-- "line number, zone, N or S, band ..
unfoldable pub zone_text : ℕ → Position → List ℕ
zone_text number q = decimal number ++ (field (signed q.zone) ++ (letter (side_letter q.north) ++ letter q.band))

-- .. p, easting units, northing units"
unfoldable pub units_text : Position → List ℕ
units_text q = field (signed q.p) ++ (field (signed q.easting) ++ (field (signed q.northing) ++ line_feed))

-- "or line number, R, refusal"
unfoldable pub refusal_text : ℕ → ℕ → List ℕ
refusal_text number k = decimal number ++ (letter (code "R") ++ (field (decimal k) ++ line_feed))

abbrev pub text_of : ℕ → Result (Reading Position) Refusal → List ℕ
text_of number (Ok (Square q)) = zone_text number q ++ units_text q
text_of number (Ok (Bare q)) = zone_text number q ++ units_text q
text_of number (Err refusal) = refusal_text number (number_of refusal)

-- How a text of a form is read.
unfoldable pub read_by : Form → List ℕ → Result (Reading Position) Refusal
read_by Plain = read_of

-- "a line over 64 bytes, its LF aside, gives 23 before any reading", whatever reads it.
unfoldable pub answer_of : (List ℕ → Result (Reading Position) Refusal) → List ℕ → Result (Reading Position) Refusal
answer_of read s = cond (ltb 64 (length s)) (Err LongLine) (read s)

-- The answer of a line, under its number.
unfoldable pub line_of : (List ℕ → Result (Reading Position) Refusal) → ℕ → List ℕ → List ℕ
line_of read number s = text_of number (answer_of read s)
