-- The refusals and their numbers: document 01, "Reading bytes", "Writing" and "Smaller services". Assumes nothing.
use Rattle.std.specs.Prelude.{ℕ}
use Rattle.rules.specs.declared.Refusal.{Refusal}
use Rattle.rules.specs.declared.Refusal.TheVariants.{HighByte, Inv, WrongZone, LongZone, NoBand, WrongBand, LoneLetter, WrongColumn, WrongRow, NoAllowedRow, NoDigit, OddDigits, ManyDigits, NoSuchZone, WrongPrecision, EastingOut, NorthingOut, NoSuchBand, BandMisfits, ShortOutput, NotShortened, LatitudeOut, LongLine}

-- "no." and "given when".
abbrev pub number_of : Refusal → ℕ
number_of HighByte = 1  -- "a byte of 128 or more stands anywhere"
number_of Inv = 2  -- "the first three bytes are INV"
number_of WrongZone = 3  -- "there are leading digits and their value is not 1..60"
number_of LongZone = 4  -- "there are more than two leading digits"
number_of NoBand = 5  -- "nothing follows the zone"
number_of WrongBand = 6  -- "the band letter is not in its set"
number_of LoneLetter = 7  -- "exactly one byte follows the band"
number_of WrongColumn = 8  -- "column letter .. not in its set"
number_of WrongRow = 9  -- "row letter, not in its set"
number_of NoAllowedRow = 10  -- "no allowed row has this row letter"
number_of NoDigit = 11  -- "any byte after the row letter is not a digit"
number_of OddDigits = 12  -- "the number of digits is odd"
number_of ManyDigits = 13  -- "there are more than 22 digits"
number_of NoSuchZone = 14  -- "zone not 0..60"
number_of WrongPrecision = 15  -- "p not -1..11"
number_of EastingOut = 16  -- "easting out of range"
number_of NorthingOut = 17  -- "northing out of range"
number_of NoSuchBand = 18  -- "band letter not a capital of that kind's set"
number_of BandMisfits = 19  -- "band does not fit"
number_of ShortOutput = 20  -- "output too short"
number_of NotShortened = 21  -- "if it is bare or q is not 0..p"
number_of LatitudeOut = 22  -- "if latitude is outside -90..90"
number_of LongLine = 23  -- "a line over 64 bytes, its LF aside"
