-- What fits: a length that is answered is at most the buffer's, so that it fits an i64, and a refusal's number fits a byte.
-- Assumes nothing.
use mathlib.Core.Path.{◌≡◌}
use mathlib.Core.Bool.{Bool}
use mathlib.Core.List.{List}
use Prim.Native.Nat.{ℕ, ◌*◌, ◌^◌, ◌≤◌, ◌<◌}
use native.Mathlib.Omega.{arith}
use lib.IntN.{ℤ, pos}
use lib.Dec.{T, leb}
use mir.Syntax.{w8, w64}
use mir.Val.{Fits, SFits}
use Rattle.whole.specs.Compare.{outside}
use Rattle.whole.proofs.Parts.{clash}
use Rattle.whole.proofs.Choice.{past}
use Rattle.reader.specs.Read.{read_of}
use Rattle.composer.specs.Compose.{composed}
use Rattle.writer.specs.Text.{head_text, full_text}
use Rattle.writer.specs.Write.{answered, write_of}
use Rattle.writer.proofs.Fit.{fitted}
use Rattle.squares.specs.Shorten.{corner_written, shortened, short_of}
use Rattle.refusals.proofs.Refusals.{Among, every, up_to_22}
use Rattle.std.specs.Prelude.{Result, Ok, Err}
use Rattle.rules.specs.declared.Refusal.{Refusal}
use Rattle.reader.specs.declared.Reading.{Reading}
use Rattle.reader.specs.declared.Reading.TheVariants.{Square, Bare}
use Rattle.composer.specs.declared.Reference.{Reference}
use Rattle.composer.specs.declared.Reference.TheVariants.{Full, Bare as BareText}
use Rattle.position.specs.declared.Position.{Position}

write_by : (c : Result Reference Refusal) (m k : ℕ) → answered c m ≡ Ok k → k ≤ m
write_by (Ok (Full parts)) m k x = (fitted (full_text parts) m k x).1
write_by (Ok (BareText z)) m k x = (fitted (head_text z.zone z.band) m k x).1
write_by (Err j) m k x = clash (cc)

pub write_room : (zone : ℤ) (north : Bool) (band : ℕ) (p e n : ℤ) (m k : ℕ) → write_of zone north band p e n m ≡ Ok k → k ≤ m
unfolding write_of
write_room zone north band p e n m k x = write_by (composed zone north band p e n) m k x

short_by : (a : Result (Reading Position) Refusal) (q : ℤ) (m k : ℕ) → shortened a q m ≡ Ok k → k ≤ m
unfolding corner_written
short_by (Err j) q m k x = clash (cc)
short_by (Ok (Bare y)) q m k x = clash (cc)
short_by (Ok (Square y)) q m k x = write_room _ _ _ _ _ _ m k (past (outside (pos 0) y.p q) _ _ _ (λ e. clash (cc)) x).1

pub short_room : (s : List ℕ) (q : ℤ) (m k : ℕ) → short_of s q m ≡ Ok k → k ≤ m
unfolding short_of
short_room s q m k x = short_by (read_of s) q m k x

-- a slice has less than 2^63 bytes
pub length_fits : (m k : ℕ) → m * 1 < 2 ^ 63 → k ≤ m → SFits w64 (pos k)
length_fits m k h r = record { sfits = omega arith }

-- one of a list of refusals
pub as_byte : (ks : List ℕ) (n : ℕ) → T (every (λ k. leb k 22) ks) → Among ks n → Fits w8 n
as_byte ks n h m = record { fits = omega (arith, up_to_22 ks n h m) }
