-- What the theorems of acceptance speak of: "A full reference sound in zone, letters and digits is accepted exactly if a
-- 100 km row of that row letter is allowed for its band and column; only one such row exists." Assumes nothing.
use Rattle.std.specs.Prelude.{◌≡◌, true, false, List, ℕ, ◌+◌, ◌≤◌, ℤ, pos, length, drop, Some, Ok}
use Rattle.std.specs.Int.Signed.{lt_z}
use Rattle.letters.specs.Letters.{place_of, first_tile, north_band}
use Rattle.bands.specs.Bands.{band_number}
use Rattle.columns.specs.Columns.{columns_of}
use Rattle.row_letters.specs.RowLetters.{rows_of}
use Rattle.rows.specs.Allowed.{allowed}
use Rattle.rows.specs.Letters.{shift_of, letter_of}
use Rattle.position.specs.declared.Position.{Position}
use Rattle.head.specs.declared.Head.{Head}
use Rattle.runs.specs.declared.Digits.{Digits}
use Rattle.head.specs.Head.{letter_in, head_of}
use Rattle.runs.specs.Digits.{digits_of}
use Rattle.reader.specs.Read.{parts_of, square_of, read_of}
use Rattle.reader.specs.declared.Reading.TheVariants.{Square}

-- What follows the band letter.
abbrev pub rest_of : List ℕ → Head → List ℕ
rest_of s head = drop head.next s

-- A text that refusals 1 to 9 and 11 to 13 let pass, and that is not a bare zone: "sound in zone, letters and digits".
pub record Sound (s : List ℕ) : Type 0 where
  pub head : Head
  pub zone_and_band : head_of s ≡ Ok head
  pub full : 2 ≤ length (rest_of s head)
  pub c : ℕ
  pub column : place_of (columns_of head.zone head.band) (letter_in (rest_of s head) 0) ≡ Some c
  pub l : ℕ
  pub row : place_of (rows_of head.zone (north_band head.band)) (letter_in (rest_of s head) 1) ≡ Some l
  pub digits : Digits
  pub halves : digits_of (drop 2 (rest_of s head)) ≡ Ok digits

-- Its zone is one of UTM's, or it is UPS.
abbrev pub Utm : {s : List ℕ} → Sound s → Type 0
Utm o = lt_z o.head.zone (pos 1) ≡ false

abbrev pub Ups : {s : List ℕ} → Sound s → Type 0
Ups o = lt_z o.head.zone (pos 1) ≡ true

-- "a 100 km row of that row letter is allowed for its band and column".
pub record HasRow {s : List ℕ} (o : Sound s) : Type 0 where
  pub r : ℤ
  pub is_allowed : allowed (band_number o.head.band) o.c r ≡ true
  pub has_letter : letter_of (shift_of o.head.zone) r ≡ o.l

-- "is accepted"
pub record Accepted (s : List ℕ) : Type 0 where
  pub q : Position
  pub is : read_of s ≡ Ok (Square q)

-- The square of a sound text, with a northing tile.
abbrev pub square_in : {s : List ℕ} → Sound s → ℕ → Position
square_in {s} o tile =
    square_of (parts_of o.head.zone o.head.band (letter_in (rest_of s o.head) 0) (letter_in (rest_of s o.head) 1) o.digits)
    (record { easting = first_tile (columns_of o.head.zone o.head.band) + o.c; northing = tile })
