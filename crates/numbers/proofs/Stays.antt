-- A refusal alters no lent byte: where a call answers below 0, -(k+1), which is `negsuc k`, its buffer holds what it held.
-- Assumes nothing.
use mathlib.Core.Path.{refl}
use mathlib.Core.Bool.{Bool}
use mathlib.Core.List.{List}
use Prim.Native.Nat.{ℕ}
use lib.IntN.{ℤ, negsuc}
use lib.ListN.{length}
use Rattle.whole.proofs.Parts.{clash}
use Rattle.writer.specs.Write.{write_of, write_leaves}
use Rattle.writer.specs.Stays.{Stays}
use Rattle.squares.specs.Shorten.{short_of, short_leaves}
use Rattle.refusals.proofs.Stays.{write_stays, shorten_stays}
use Rattle.numbers.specs.Numbers.{length_number}
use Rattle.std.specs.Prelude.{Result, Ok, Err}
use Rattle.rules.specs.declared.Refusal.{Refusal}

-- a length is not below 0
length_by : (a : Result ℕ Refusal) (l after : List ℕ) → Stays Err a l after → Stays negsuc (length_number a) l after
length_by (Ok n) l after h = λ k x. clash (cc)
length_by (Err n) l after h = λ k x. h n refl

pub mgrs_write_stays : (zone : ℤ) (north : Bool) (band : ℕ) (p e n : ℤ) (l : List ℕ)
    → Stays negsuc (length_number (write_of zone north band p e n (length l))) l (write_leaves zone north band p e n l)
mgrs_write_stays zone north band p e n l = length_by _ l _ (write_stays zone north band p e n l)

pub mgrs_shorten_stays : (s : List ℕ) (q : ℤ) (l : List ℕ) → Stays negsuc (length_number (short_of s q (length l))) l (short_leaves s q l)
mgrs_shorten_stays s q l = length_by _ l _ (shorten_stays s q l)
