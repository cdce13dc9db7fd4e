-- What follows the row letter, refusals 11, 12 and 13 in their order: document 01, "Reading bytes". Assumes nothing.
use Rattle.std.specs.Prelude.{cond, not, List, ℕ, ◌/◌, ◌%◌, eqb, ltb, pos, length, take, drop, Result, Ok, Err}
use Rattle.words.specs.Bytes.{all_digits}
use Rattle.runs.specs.Runs.{value_of}
use Rattle.rules.specs.declared.Refusal.{Refusal}
use Rattle.rules.specs.declared.Refusal.TheVariants.{NoDigit, OddDigits, ManyDigits}
use Rattle.runs.specs.declared.Digits.{Digits}

-- "Otherwise the digits halve into easting and northing"
unfoldable pub digits_of : List ℕ → Result Digits Refusal
digits_of ds =
    let half = length ds / 2 in
    cond (not (all_digits ds)) (Err NoDigit)  -- "any byte after the row letter is not a digit"
    (cond (eqb (length ds % 2) 1) (Err OddDigits)  -- "the number of digits is odd"
    (cond (ltb 22 (length ds)) (Err ManyDigits)  -- "there are more than 22 digits"
    (Ok (record { p = pos half; easting = value_of (take half ds); northing = value_of (drop half ds) }))))
