-- What a text means, in metres: document 01, "The metres answer is one of three". Assumes nothing.
use Rattle.std.specs.Prelude.{List, ℕ, Result, Ok, Err}
use Rattle.position.specs.declared.Metres.{Metres}
use Rattle.position.specs.declared.Position.{Position}
use Rattle.position.specs.Metres.{metres_of}
use Rattle.reader.specs.Read.{read_of}
use Rattle.rules.specs.declared.Refusal.{Refusal}
use Rattle.reader.specs.declared.Reading.{Reading}
use Rattle.reader.specs.declared.Reading.TheVariants.{Square, Bare}

-- "Each metre value is the unit count as f64 divided by 2,000,000.0, rounded once."
abbrev pub metres_at : Position → Metres
metres_at q = record { easting = metres_of q.easting; northing = metres_of q.northing }

-- "a square with two f64 metres, a bare zone with two f64 metres, or a refusal number"
abbrev pub in_metres : Result (Reading Position) Refusal → Result (Reading Metres) Refusal
in_metres (Ok (Square q)) = Ok (Square (metres_at q))
in_metres (Ok (Bare q)) = Ok (Bare (metres_at q))
in_metres (Err n) = Err n

unfoldable pub metres_read : List ℕ → Result (Reading Metres) Refusal
metres_read s = in_metres (read_of s)
