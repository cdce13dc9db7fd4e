-- A refusal leaves every lent element as it was: where a call answers below 0, -(k+1), which is `negsuc k`, its array holds
-- what it held. Assumes nothing.
use mathlib.Core.Path.{refl}
use mathlib.Core.Bool.{Bool}
use mathlib.Core.List.{List}
use Prim.Native.Nat.{ℕ}
use lib.Ieee.{Float}
use lib.IntN.{ℤ, negsuc}
use Rattle.whole.proofs.Parts.{clash}
use Rattle.ranges.specs.Edges.{mgrs_check}
use Rattle.reader.specs.Read.{read_of}
use Rattle.reader.specs.Metres.{metres_read}
use Rattle.writer.specs.Stays.{Stays}
use Rattle.numbers.specs.Numbers.{read_number, metres_number, mgrs_number}
use Rattle.arrays.specs.Lent.{read_leaves, metres_leaves, moved_leaves}
use Rattle.std.specs.Prelude.{Result, Ok, Err}
use Rattle.rules.specs.declared.Refusal.{Refusal}
use Rattle.reader.specs.declared.Reading.{Reading}
use Rattle.reader.specs.declared.Reading.TheVariants.{Square, Bare}
use Rattle.position.specs.declared.Position.{Position}
use Rattle.position.specs.declared.Metres.{Metres}
use Rattle.ranges.specs.declared.Point.{Point}

read_by_lem : (a : Result (Reading Position) Refusal) (l : List ℤ) → Stays negsuc (read_number a) l (read_leaves a l)
read_by_lem (Ok (Square q)) l = λ k x. clash (cc)
read_by_lem (Ok (Bare q)) l = λ k x. clash (cc)
read_by_lem (Err n) l = λ k x. refl

pub mgrs_read_stays : (s : List ℕ) (l : List ℤ) → Stays negsuc (read_number (read_of s)) l (read_leaves (read_of s) l)
mgrs_read_stays s l = read_by_lem (read_of s) l

metres_by : (a : Result (Reading Metres) Refusal) (l : List Float) → Stays negsuc (metres_number a) l (metres_leaves a l)
metres_by (Ok (Square m)) l = λ k x. clash (cc)
metres_by (Ok (Bare m)) l = λ k x. clash (cc)
metres_by (Err n) l = λ k x. refl

pub mgrs_read_metres_stays : (s : List ℕ) (l : List Float) → Stays negsuc (metres_number (metres_read s)) l (metres_leaves (metres_read s) l)
mgrs_read_metres_stays s l = metres_by (metres_read s) l

moved_by_lem : (a : Result Point Refusal) (l : List ℤ) → Stays negsuc (mgrs_number a) l (moved_leaves a l)
moved_by_lem (Ok point) l = λ k x. clash (cc)
moved_by_lem (Err n) l = λ k x. refl

pub mgrs_check_coords_stays : (zone : ℤ) (north : Bool) (e n : ℤ) (l : List ℤ)
    → Stays negsuc (mgrs_number (mgrs_check zone north e n)) l (moved_leaves (mgrs_check zone north e n) l)
mgrs_check_coords_stays zone north e n l = moved_by_lem (mgrs_check zone north e n) l
