-- The round trips of demand 3: what is read and then written, what is written and then read. Assumes nothing.
use Rattle.std.specs.Prelude.{◌≡◌, Bool, true, false, cond, List, [], ◌∷◌, ◌++◌, ℕ, ◌+◌, ◌*◌, ◌≤◌, ℤ, pos, negsuc, length, drop, Result, Ok, Err}
use Rattle.std.specs.Int.Signed.{lt_z}
use Rattle.whole.specs.Floor.{fold}
use Rattle.letters.specs.Letters.{capital_of}
use Rattle.position.specs.declared.Position.{Position}
use Rattle.ranges.specs.declared.Point.{Point}
use Rattle.ranges.specs.Edges.{mgrs_check}
use Rattle.position.specs.Squares.{centre_of, holds}
use Rattle.head.specs.declared.Head.{Head}
use Rattle.head.specs.Head.{head_of}
use Rattle.block.specs.Bare.{bare_of}
use Rattle.writer.specs.Text.{head_text}
use Rattle.position.specs.Units.{tile_at}
use Rattle.composer.specs.Compose.{cut_of, composed}
use Rattle.writer.specs.Write.{write_of, write_leaves}
use Rattle.laws.specs.Sound.{rest_of}
use Rattle.rules.specs.declared.Refusal.{Refusal}
use Rattle.reader.specs.declared.Reading.{Reading}
use Rattle.reader.specs.declared.Reading.TheVariants.{Square, Bare}
use Rattle.composer.specs.declared.Reference.{Reference}
use Rattle.composer.specs.declared.Reference.TheVariants.{Full, Bare as BareText}

-- "Length: 5+2p UTM, 3+2p UPS; bare 3 and 1."
abbrev pub length_of : ℤ → ℤ → ℕ
length_of zone (pos p) = cond (lt_z zone (pos 1)) (3 + 2 * p) (5 + 2 * p)
length_of zone (negsuc n) = cond (lt_z zone (pos 1)) 1 3

-- ---- reading, then writing

-- "in capitals"
unfoldable pub in_capitals : List ℕ → List ℕ
in_capitals [] = []
in_capitals (b ∷ bs) = capital_of b ∷ in_capitals bs

-- "it returns in capitals, a UTM zone as two digits": the zone and the band of the text, and then what follows them in it.
abbrev pub canonical : List ℕ → Head → List ℕ
canonical s head = head_text head.zone head.band ++ in_capitals (rest_of s head)

-- "Written from .. with its zone, hemisphere, band and digit count": of a position, the answer in a buffer of m bytes, and what
-- the buffer then holds.
abbrev pub write_at : Position → ℕ → Result ℕ Refusal
write_at q m = write_of q.zone q.north q.band q.p q.easting q.northing m

abbrev pub leaves_at : Position → List ℕ → List ℕ
leaves_at q l = write_leaves q.zone q.north q.band q.p q.easting q.northing l

-- A position is written as a text, "given room": the answer is its length, the buffer holds it and beyond it what it held.
pub record Writes (q : Position) (t : List ℕ) : Type 0 where
  pub answer : (l : List ℕ) → length t ≤ length l → write_at q (length l) ≡ Ok (length t)
  pub buffer : (l : List ℕ) → length t ≤ length l → leaves_at q l ≡ t ++ drop (length t) l

-- A position is written as the canonical bytes of a text.
pub record Returns (s : List ℕ) (q : Position) : Type 0 where
  pub head : Head
  pub zone_and_band : head_of s ≡ Ok head
  pub bytes : Writes q (canonical s head)

-- ---- writing, then reading

-- The centre of the square of p digits around a coordinate: of its tile and its digits, cut.
abbrev pub around : ℤ → ℤ → ℤ
around p x = pos (centre_of p (tile_at (fold x)) (cut_of p (fold x)))

-- The square of a point after the edge rules.
unfoldable pub square_at : ℤ → ℕ → ℤ → Point → Position
square_at zone band p point = record {
  zone = zone;
  north = point.north;
  band = band;
  p = p;
  easting = around p point.easting;
  northing = around p point.northing;
}

abbrev pub landed : Result Point Refusal → (Point → Result (Reading Position) Refusal) → Result (Reading Position) Refusal
landed (Err k) rest = Err k
landed (Ok point) rest = rest point

-- What is read of what is written: a refusal where the writer refuses, a bare zone of that zone and band, or the square of
-- the point after the edge rules.
abbrev pub back_from : ℤ → Bool → ℕ → ℤ → ℤ → ℤ → Result Reference Refusal → Result (Reading Position) Refusal
back_from zone north band p e n (Err k) = Err k
back_from zone north band p e n (Ok (BareText z)) = Ok (Bare (bare_of zone band))
back_from zone north band p e n (Ok (Full parts)) = landed (mgrs_check zone north e n) (λ point. Ok (Square (square_at zone band p point)))

unfoldable pub back_of : ℤ → Bool → ℕ → ℤ → ℤ → ℤ → Result (Reading Position) Refusal
back_of zone north band p e n = back_from zone north band p e n (composed zone north band p e n)

-- "reads back to that zone, band and digit count and, unless bare, to the square holding the point after the edge rules"
pub record SquareBack (zone : ℤ) (band : ℕ) (p : ℤ) (point : Point) (a : Result (Reading Position) Refusal) : Type 0 where
  pub q : Position
  pub is : a ≡ Ok (Square q)
  pub zone_is : q.zone ≡ zone
  pub band_is : q.band ≡ band
  pub p_is : q.p ≡ p
  pub north_is : q.north ≡ point.north
  pub east : holds p q.easting point.easting ≡ true
  pub north : holds p q.northing point.northing ≡ true

pub record BareBack (zone : ℤ) (band : ℕ) (a : Result (Reading Position) Refusal) : Type 0 where
  pub q : Position
  pub is : a ≡ Ok (Bare q)
  pub zone_is : q.zone ≡ zone
  pub band_is : q.band ≡ band
  pub p_is : q.p ≡ negsuc 0

-- "All that the writer writes reads back to that zone, band and digit count and, unless bare, to the square holding the point
-- after the edge rules": of what was asked for, and of the answer of reading.
pub record ReadsBack (zone : ℤ) (north : Bool) (band : ℕ) (p e n : ℤ) (a : Result (Reading Position) Refusal) : Type 0 where
  pub point : Point
  pub is_point : mgrs_check zone north e n ≡ Ok point
  pub square : lt_z p (pos 0) ≡ false → SquareBack zone band p point a
  pub bare : lt_z p (pos 0) ≡ true → (p ≡ negsuc 0) × BareBack zone band a
