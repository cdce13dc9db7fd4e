-- A refusal of writing or of shortening alters no lent byte, over what each call promises of its answer and of its buffer.
-- Assumes nothing.
use mathlib.Core.Path.{refl}
use mathlib.Core.Bool.{Bool}
use mathlib.Core.List.{List}
use Prim.Native.Nat.{ℕ}
use lib.IntN.{ℤ, pos}
use lib.ListN.{length}
use Rattle.whole.specs.Compare.{outside}
use Rattle.reader.specs.Read.{read_of}
use Rattle.composer.specs.Compose.{composed}
use Rattle.writer.specs.Text.{head_text, full_text}
use Rattle.writer.specs.Write.{answered, kept, write_of, write_leaves}
use Rattle.writer.specs.Stays.{Stays}
use Rattle.writer.proofs.Fit.{stays, fit_stays}
use Rattle.squares.specs.Shorten.{corner_written, corner_leaves, shortened, short_left, short_of, short_leaves}
use Rattle.std.specs.Prelude.{Result, Ok, Err}
use Rattle.rules.specs.declared.Refusal.{Refusal}
use Rattle.reader.specs.declared.Reading.{Reading}
use Rattle.reader.specs.declared.Reading.TheVariants.{Square, Bare}
use Rattle.composer.specs.declared.Reference.{Reference}
use Rattle.composer.specs.declared.Reference.TheVariants.{Full, Bare as BareText}
use Rattle.position.specs.declared.Position.{Position}

write_by : (c : Result Reference Refusal) (l : List ℕ) → Stays Err (answered c (length l)) l (kept c l)
write_by (Ok (Full parts)) l = fit_stays (full_text parts) l
write_by (Ok (BareText z)) l = fit_stays (head_text z.zone z.band) l
write_by (Err j) l = λ k x. refl

pub write_stays : (zone : ℤ) (north : Bool) (band : ℕ) (p e n : ℤ) (l : List ℕ)
    → Stays Err (write_of zone north band p e n (length l)) l (write_leaves zone north band p e n l)
unfolding write_of write_leaves
write_stays zone north band p e n l = write_by (composed zone north band p e n) l

short_by : (a : Result (Reading Position) Refusal) (q : ℤ) (l : List ℕ) → Stays Err (shortened a q (length l)) l (short_left a q l)
unfolding corner_written corner_leaves
short_by (Err j) q l = λ k x. refl
short_by (Ok (Bare y)) q l = λ k x. refl
short_by (Ok (Square y)) q l = stays Err l (outside (pos 0) y.p q) _ _ _ _ (λ k x. refl) (write_stays _ _ _ _ _ _ l)

pub shorten_stays : (s : List ℕ) (q : ℤ) (l : List ℕ) → Stays Err (short_of s q (length l)) l (short_leaves s q l)
unfolding short_of short_leaves
shorten_stays s q l = short_by (read_of s) q l
