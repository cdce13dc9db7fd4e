-- Covering: document 01, "Smaller services". Assumes nothing.
use Rattle.std.specs.Prelude.{Bool, false, ◌&&◌, List, ℕ, eqb, ℤ, pos, ◌+ℤ◌, Result, Ok, Err}
use Rattle.std.specs.Int.Signed.{le_z}
use Rattle.whole.specs.Compare.{same}
use Rattle.position.specs.declared.Position.{Position}
use Rattle.position.specs.Squares.{corner_of, side_length}
use Rattle.reader.specs.Read.{read_of}
use Rattle.rules.specs.declared.Refusal.{Refusal}
use Rattle.reader.specs.declared.Reading.{Reading}
use Rattle.reader.specs.declared.Reading.TheVariants.{Square, Bare}

-- "zone and band are equal"
unfoldable pub same_area : Position → Position → Bool
same_area a b = same a.zone b.zone && eqb a.band b.band

-- On one axis, of two squares' p and centres: the second lies within the first, from its corner to its other edge.
unfoldable pub axis_within : ℤ → ℤ → ℤ → ℤ → Bool
axis_within p c r d =
    le_z (corner_of p c) (corner_of r d)
    && le_z (corner_of r d +ℤ pos (side_length r)) (corner_of p c +ℤ pos (side_length p))

-- "B's square lies within A's"
unfoldable pub square_within : Position → Position → Bool
square_within a b =
    axis_within a.p a.easting b.p b.easting && axis_within a.p a.northing b.p b.northing

-- "A covers B exactly if zone and band are equal and either A is bare or both are full and B's square lies within A's."
-- "A is read first; refusals are those of reading."
abbrev pub covering : Result (Reading Position) Refusal → Result (Reading Position) Refusal → Result Bool Refusal
covering (Err k) b = Err k
covering (Ok (Bare a)) (Err k) = Err k
covering (Ok (Bare a)) (Ok (Bare b)) = Ok (same_area a b)
covering (Ok (Bare a)) (Ok (Square b)) = Ok (same_area a b)
covering (Ok (Square a)) (Err k) = Err k
covering (Ok (Square a)) (Ok (Bare b)) = Ok false
covering (Ok (Square a)) (Ok (Square b)) = Ok (same_area a b && square_within a b)

unfoldable pub covers_of : List ℕ → List ℕ → Result Bool Refusal
covers_of a b = covering (read_of a) (read_of b)
