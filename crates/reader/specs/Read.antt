-- What a text means: document 01, "Reading bytes". Refusals 1 to 6 are the head's, then comes the bare zone, then 7, then
-- 8 to 10 of the block, then 11 to 13 of the digits. Assumes nothing.
use Rattle.std.specs.Prelude.{cond, List, ℕ, eqb, ℤ, pos, length, drop, Result, Ok, Err}
use Rattle.letters.specs.Letters.{north_band}
use Rattle.position.specs.declared.Position.{Position}
use Rattle.position.specs.Squares.{centre_of}
use Rattle.head.specs.declared.Head.{Head}
use Rattle.block.specs.declared.Tiles.{Tiles}
use Rattle.runs.specs.declared.Digits.{Digits}
use Rattle.position.specs.declared.Parts.{Parts}
use Rattle.head.specs.Head.{letter_in, head_of}
use Rattle.block.specs.Bare.{bare_of}
use Rattle.block.specs.Block.{block_of}
use Rattle.runs.specs.Digits.{digits_of}
use Rattle.rules.specs.declared.Refusal.{Refusal}
use Rattle.rules.specs.declared.Refusal.TheVariants.{LoneLetter}
use Rattle.reader.specs.declared.Reading.{Reading}
use Rattle.reader.specs.declared.Reading.TheVariants.{Square, Bare}

-- The parts of a full reference.
abbrev pub parts_of : ℤ → ℕ → ℕ → ℕ → Digits → Parts
parts_of zone band column row d = record {
  zone = zone;
  band = band;
  column = column;
  row = row;
  p = d.p;
  easting = d.easting;
  northing = d.northing;
}

-- "the centre on each axis is (2N+1) x 10^(11-p) units, N being the tile followed by its digits"
unfoldable pub square_of : Parts → Tiles → Position
square_of parts tiles = record {
  zone = parts.zone;
  north = north_band parts.band;
  band = parts.band;
  p = parts.p;
  easting = pos (centre_of parts.p tiles.easting parts.easting);
  northing = pos (centre_of parts.p tiles.northing parts.northing);
}

-- A stage's refusal is the text's; what it found goes on.
abbrev pub begun : Result Head Refusal → (Head → Result (Reading Position) Refusal) → Result (Reading Position) Refusal
begun (Err n) rest = Err n
begun (Ok head) rest = rest head

abbrev pub blocked : Result Tiles Refusal → (Tiles → Result (Reading Position) Refusal) → Result (Reading Position) Refusal
blocked (Err n) rest = Err n
blocked (Ok tiles) rest = rest tiles

abbrev pub halved : Result Digits Refusal → (Digits → Result (Reading Position) Refusal) → Result (Reading Position) Refusal
halved (Err n) rest = Err n
halved (Ok d) rest = rest d

-- From the column letter on: the block before the digits.
unfoldable pub full_of : ℤ → ℕ → List ℕ → Result (Reading Position) Refusal
full_of zone band rest =
    let column = letter_in rest 0 in
    let row = letter_in rest 1 in
    blocked (block_of zone band column row)
    (λ tiles. halved (digits_of (drop 2 rest))
    (λ d. Ok (Square (square_of (parts_of zone band column row d) tiles))))

-- What follows the band: "A text that ends at the band is a bare zone (tested after 6)"; "exactly one byte follows the band".
unfoldable pub tail_of : ℤ → ℕ → List ℕ → Result (Reading Position) Refusal
tail_of zone band rest =
    cond (eqb (length rest) 0) (Ok (Bare (bare_of zone band)))
    (cond (eqb (length rest) 1) (Err LoneLetter)
    (full_of zone band rest))

unfoldable pub read_of : List ℕ → Result (Reading Position) Refusal
read_of s = begun (head_of s) (λ head. tail_of head.zone head.band (drop head.next s))
