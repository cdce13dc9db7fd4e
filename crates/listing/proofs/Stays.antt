-- A line that finds no room alters no lent byte. A line is never refused for its text: what is wrong with it is told in the
-- line. Assumes nothing.
use mathlib.Core.List.{List}
use Prim.Native.Nat.{ℕ}
use lib.ListN.{length}
use Rattle.writer.specs.Write.{fit_of, leaves_of}
use Rattle.writer.specs.Stays.{Stays}
use Rattle.writer.proofs.Fit.{fit_stays}
use Rattle.listing.specs.Listing.{line_of}
use Rattle.std.specs.Prelude.{Result, Err}
use Rattle.rules.specs.declared.Refusal.{Refusal}
use Rattle.reader.specs.declared.Reading.{Reading}
use Rattle.position.specs.declared.Position.{Position}

pub list_line_stays : (read : List ℕ → Result (Reading Position) Refusal) (number : ℕ) (s l : List ℕ) → Stays Err (fit_of (line_of read number s) (length l)) l (leaves_of (line_of read number s) l)
list_line_stays read number s l = fit_stays (line_of read number s) l
