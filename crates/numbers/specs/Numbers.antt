-- What each call answers: "A call answers an i64: 0 or more is the answer, below 0 is minus the refusal number." Bands and
-- rows, which are below 0 in the south, are never refused. Assumes nothing.
use Rattle.std.specs.Prelude.{Bool, cond, ℕ, ℤ, pos, negsuc, neg_ℤ, Option, None, Result, Ok, Err}
use Rattle.std.specs.Option.{unwrap_or}
use Rattle.rows.specs.Resolve.{resolve}
use Rattle.rules.specs.declared.Refusal.{Refusal}
use Rattle.rules.specs.Rules.{number_of}
use Rattle.reader.specs.declared.Reading.{Reading}
use Rattle.reader.specs.declared.Reading.TheVariants.{Square, Bare}
use Rattle.position.specs.declared.Position.{Position}
use Rattle.position.specs.declared.Metres.{Metres}
use Rattle.ranges.specs.declared.Point.{Point}

-- "below 0 is minus the refusal number"
unfoldable pub minus : ℕ → ℤ
minus n = neg_ℤ (pos n)

-- An answer as a number, by what it is where the call does not refuse.
abbrev pub answer_number : {A : Type 0} → (A → ℤ) → Result A Refusal → ℤ
answer_number of (Ok a) = of a
answer_number of (Err refusal) = minus (number_of refusal)

-- "0 square, 1 bare zone"
abbrev pub kind_number : {A : Type 0} → Reading A → ℤ
kind_number (Square q) = pos 0
kind_number (Bare q) = pos 1

abbrev pub read_number : Result (Reading Position) Refusal → ℤ
read_number = answer_number kind_number

abbrev pub metres_number : Result (Reading Metres) Refusal → ℤ
metres_number = answer_number kind_number

-- "The answer is that length."
abbrev pub length_number : Result ℕ Refusal → ℤ
length_number = answer_number pos

-- "0 no, 1 yes"
abbrev pub covers_number : Result Bool Refusal → ℤ
covers_number = answer_number (λ covers. cond covers (pos 1) (pos 0))

-- 0 for a point in range.
abbrev pub mgrs_number : Result Point Refusal → ℤ
mgrs_number = answer_number (λ point. pos 0)

abbrev pub utm_number : Result (Unit {0}) Refusal → ℤ
utm_number = answer_number (λ within. pos 0)

-- "zone, or -22"
abbrev pub zone_number : Result ℤ Refusal → ℤ
zone_number = answer_number (λ zone. zone)

-- "row, or 100 for none"
abbrev pub row_number : Option ℤ → ℤ
row_number row = unwrap_or row (pos 100)

-- "column 0..7, row letter's place in an odd zone": where one of them is negative, there is no such column or letter.
abbrev pub row_of : ℤ → ℤ → ℤ → ℤ
row_of b (pos c) (pos l) = row_number (resolve 0 b c l)
row_of b (pos c) (negsuc l) = row_number None
row_of b (negsuc c) l = row_number None
