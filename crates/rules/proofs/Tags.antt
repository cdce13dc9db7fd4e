-- The tag of each refusal, and one more, is its number. Assumes nothing.
use Rattle.std.proofs.Common.{◌≡◌, ◌+◌, ◌≤◌, refl}
use native.Mathlib.Omega.{arith}
use denote.Enum.Declared.{tag_of}
use Rattle.rules.specs.declared.Refusal.{Refusal}
use Rattle.rules.specs.declared.Refusal.TheVariants.{HighByte, Inv, WrongZone, LongZone, NoBand, WrongBand, LoneLetter, WrongColumn, WrongRow, NoAllowedRow, NoDigit, OddDigits, ManyDigits, NoSuchZone, WrongPrecision, EastingOut, NorthingOut, NoSuchBand, BandMisfits, ShortOutput, NotShortened, LatitudeOut, LongLine}
use Rattle.rules.specs.contracts.Refusal.{the_type}
use Rattle.rules.specs.Rules.{number_of}

pub tag_is : (r : Refusal) → tag_of the_type r + 1 ≡ number_of r
tag_is HighByte = refl
tag_is Inv = refl
tag_is WrongZone = refl
tag_is LongZone = refl
tag_is NoBand = refl
tag_is WrongBand = refl
tag_is LoneLetter = refl
tag_is WrongColumn = refl
tag_is WrongRow = refl
tag_is NoAllowedRow = refl
tag_is NoDigit = refl
tag_is OddDigits = refl
tag_is ManyDigits = refl
tag_is NoSuchZone = refl
tag_is WrongPrecision = refl
tag_is EastingOut = refl
tag_is NorthingOut = refl
tag_is NoSuchBand = refl
tag_is BandMisfits = refl
tag_is ShortOutput = refl
tag_is NotShortened = refl
tag_is LatitudeOut = refl
tag_is LongLine = refl

-- no number is 0, so that minus one is below 0
pub positive : (r : Refusal) → 1 ≤ number_of r
positive r = let e = tag_is r in omega arith
