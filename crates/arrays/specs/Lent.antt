-- What the lent elements then hold: "A refusal leaves every lent element as it was." Assumes nothing.
use Rattle.std.specs.Prelude.{Bool, cond, List, [], ◌∷◌, Float, ℤ, pos, Result, Ok, Err}
use Rattle.position.specs.declared.Position.{Position}
use Rattle.ranges.specs.declared.Point.{Point}
use Rattle.position.specs.declared.Metres.{Metres}
use Rattle.rules.specs.declared.Refusal.{Refusal}
use Rattle.reader.specs.declared.Reading.{Reading}
use Rattle.reader.specs.declared.Reading.TheVariants.{Square, Bare}

-- "north 0/1"
abbrev pub flag : Bool → ℤ
flag north = cond north (pos 1) (pos 0)

-- "zone, north 0/1, band byte, p, easting, northing"
abbrev pub fields_of : Position → List ℤ
fields_of q = q.zone ∷ flag q.north ∷ pos q.band ∷ q.p ∷ q.easting ∷ q.northing ∷ []

abbrev pub read_leaves : Result (Reading Position) Refusal → List ℤ → List ℤ
read_leaves (Ok (Square q)) l = fields_of q
read_leaves (Ok (Bare q)) l = fields_of q
read_leaves (Err n) l = l

-- "easting, northing", in metres
abbrev pub metres_fields : Metres → List Float
metres_fields m = m.easting ∷ m.northing ∷ []

abbrev pub metres_leaves : Result (Reading Metres) Refusal → List Float → List Float
metres_leaves (Ok (Square m)) l = metres_fields m
metres_leaves (Ok (Bare m)) l = metres_fields m
metres_leaves (Err n) l = l

-- "north 0/1, easting, northing after the edge rules"
abbrev pub point_fields : Point → List ℤ
point_fields x = flag x.north ∷ x.easting ∷ x.northing ∷ []

abbrev pub moved_leaves : Result Point Refusal → List ℤ → List ℤ
moved_leaves (Ok x) l = point_fields x
moved_leaves (Err n) l = l
