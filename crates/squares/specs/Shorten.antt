-- Shortening: document 01, "Smaller services". Assumes nothing.
use Rattle.std.specs.Prelude.{cond, List, ℕ, ℤ, pos, Result, Ok, Err}
use Rattle.whole.specs.Compare.{outside}
use Rattle.position.specs.declared.Position.{Position}
use Rattle.position.specs.Squares.{corner_of}
use Rattle.reader.specs.Read.{read_of}
use Rattle.writer.specs.Write.{write_of, write_leaves}
use Rattle.rules.specs.declared.Refusal.{Refusal}
use Rattle.rules.specs.declared.Refusal.TheVariants.{NotShortened}
use Rattle.reader.specs.declared.Reading.{Reading}
use Rattle.reader.specs.declared.Reading.TheVariants.{Square, Bare}

-- "Otherwise it writes the corner at q": of the square that was read, in a buffer of m bytes. The 20 of writing is this one's.
unfoldable pub corner_written : Position → ℤ → ℕ → Result ℕ Refusal
corner_written x q m =
    write_of x.zone x.north x.band q (corner_of x.p x.easting) (corner_of x.p x.northing) m

unfoldable pub corner_leaves : Position → ℤ → List ℕ → List ℕ
corner_leaves x q l =
    write_leaves x.zone x.north x.band q (corner_of x.p x.easting) (corner_of x.p x.northing) l

-- "reading's refusals; 21 if it is bare or q is not 0..p; 20."
abbrev pub shortened : Result (Reading Position) Refusal → ℤ → ℕ → Result ℕ Refusal
shortened (Err k) q m = Err k
shortened (Ok (Bare x)) q m = Err NotShortened
shortened (Ok (Square x)) q m = cond (outside (pos 0) x.p q) (Err NotShortened) (corner_written x q m)

-- "A refusal alters no lent byte."
abbrev pub short_left : Result (Reading Position) Refusal → ℤ → List ℕ → List ℕ
short_left (Err k) q l = l
short_left (Ok (Bare x)) q l = l
short_left (Ok (Square x)) q l = cond (outside (pos 0) x.p q) l (corner_leaves x q l)

-- The answer, of a text and q, in a buffer of m bytes, and what the buffer then holds.
unfoldable pub short_of : List ℕ → ℤ → ℕ → Result ℕ Refusal
short_of s q m = shortened (read_of s) q m

unfoldable pub short_leaves : List ℕ → ℤ → List ℕ → List ℕ
short_leaves s q l = short_left (read_of s) q l
