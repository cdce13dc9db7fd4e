-- The letters of document 01, "Letters (source document 000)". Assumes nothing.
use Rattle.std.specs.Prelude.{Bool, true, cond, List, [], ◌∷◌, ℕ, suc, ◌+◌, ◌-◌, eqb, leb, ltb, get_or, Option, Some, None, is_some}
use Prim.Native.Char.{code}
use Rattle.whole.specs.Text.{bytes}

-- "a-z count as A-Z": a capital stands 32 below its small letter.
unfoldable pub capital_of : ℕ → ℕ
capital_of b = cond (ltb b (code "a")) b (cond (ltb (code "z") b) b (b - 32))

-- The twelve sets, and one for zones and UPS bands that do not exist.
pub data LetterSet : Type 0 where
  NoLetters : LetterSet
  UtmBands : LetterSet
  UpsBands : LetterSet
  UtmColumns0 : LetterSet
  UtmColumns1 : LetterSet
  UtmColumns2 : LetterSet
  UtmRows : LetterSet
  UpsColumnsA : LetterSet
  UpsColumnsB : LetterSet
  UpsColumnsY : LetterSet
  UpsColumnsZ : LetterSet
  UpsRowsSouth : LetterSet
  UpsRowsNorth : LetterSet

-- The sets, letter for letter.
abbrev pub letters_of : LetterSet → List ℕ
letters_of NoLetters = []
letters_of UtmBands = bytes "CDEFGHJKLMNPQRSTUVWX"
letters_of UpsBands = bytes "ABYZ"
letters_of UtmColumns0 = bytes "ABCDEFGH"
letters_of UtmColumns1 = bytes "JKLMNPQR"
letters_of UtmColumns2 = bytes "STUVWXYZ"
letters_of UtmRows = bytes "ABCDEFGHJKLMNPQRSTUV"
letters_of UpsColumnsA = bytes "JKLPQRSTUXYZ"
letters_of UpsColumnsB = bytes "ABCFGHJKLPQR"
letters_of UpsColumnsY = bytes "RSTUXYZ"
letters_of UpsColumnsZ = bytes "ABCFGHJ"
letters_of UpsRowsSouth = bytes "ABCDEFGHJKLMNPQRSTUVWXYZ"
letters_of UpsRowsNorth = bytes "ABCDEFGHJKLMNP"

-- The first place of a letter in a list, counted from i.
unfoldable pub place_from : ℕ → List ℕ → ℕ → Option ℕ
place_from i [] b = None
place_from i (x ∷ xs) b = cond (eqb x b) (Some i) (place_from (suc i) xs b)

-- Where a capital stands in a set, counted from 0.
unfoldable pub place_of : LetterSet → ℕ → Option ℕ
place_of set b = place_from 0 (letters_of set) b

-- What is answered where a letter is "not in its set", or by its place.
abbrev pub by_place : {A : Type 0} → Option ℕ → A → (ℕ → A) → A
by_place None none at = none
by_place (Some k) none at = at k

-- Whether a letter is in a set.
unfoldable pub is_in : LetterSet → ℕ → Bool
is_in set b = is_some (place_of set b)

-- The letter at a place, 0 past the set's end.
unfoldable pub letter_at : LetterSet → ℕ → ℕ
letter_at set k = get_or (letters_of set) k 0

-- "column index 0..7 is tile 1..8"; UPS columns "A .. from tile 8; B .. from 20; Y .. from 13; Z .. from 20";
-- "UPS rows: south .. from 8, north .. from 13". Bands and UTM rows count no tiles: 0.
unfoldable pub first_tile : LetterSet → ℕ
first_tile NoLetters = 0
first_tile UtmBands = 0
first_tile UpsBands = 0
first_tile UtmColumns0 = 1
first_tile UtmColumns1 = 1
first_tile UtmColumns2 = 1
first_tile UtmRows = 0
first_tile UpsColumnsA = 8
first_tile UpsColumnsB = 20
first_tile UpsColumnsY = 13
first_tile UpsColumnsZ = 20
first_tile UpsRowsSouth = 8
first_tile UpsRowsNorth = 13

-- The tile of a letter, as a place: counted from its set's first tile on.
unfoldable pub tile_in : LetterSet → ℕ → Option ℕ
tile_in set b = by_place (place_of set b) None (λ k. Some (first_tile set + k))

-- "north from N"; "A, B south; Y, Z north": the letters from N.
abbrev pub north_band : ℕ → Bool
north_band b = leb (code "N") b

-- "B and Z east"
unfoldable pub east_band : ℕ → Bool
east_band b = cond (eqb b (code "B")) true (eqb b (code "Z"))
