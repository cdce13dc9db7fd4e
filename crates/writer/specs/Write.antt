-- What writing answers and what the lent buffer then holds: document 01, "Writing". Assumes nothing.
use Rattle.std.specs.Prelude.{Bool, cond, List, ◌++◌, ℕ, ltb, ℤ, length, drop, Result, Ok, Err}
use Rattle.writer.specs.Text.{head_text, full_text}
use Rattle.composer.specs.Compose.{composed}
use Rattle.rules.specs.declared.Refusal.{Refusal}
use Rattle.rules.specs.declared.Refusal.TheVariants.{ShortOutput}
use Rattle.composer.specs.declared.Reference.{Reference}
use Rattle.composer.specs.declared.Reference.TheVariants.{Full, Bare as BareText}

-- "20 output too short", in a buffer of m bytes; else "The answer is that length".
unfoldable pub fit_of : List ℕ → ℕ → Result ℕ Refusal
fit_of t m = cond (ltb m (length t)) (Err ShortOutput) (Ok (length t))

-- "bytes beyond it stay. A refusal alters no lent byte.": what the buffer then holds.
unfoldable pub leaves_of : List ℕ → List ℕ → List ℕ
leaves_of t l = cond (ltb (length l) (length t)) l (t ++ drop (length t) l)

-- A bare zone is written as its zone and band; a refusal is the answer, and the buffer stays.
abbrev pub answered : Result Reference Refusal → ℕ → Result ℕ Refusal
answered (Ok (Full parts)) m = fit_of (full_text parts) m
answered (Ok (BareText z)) m = fit_of (head_text z.zone z.band) m
answered (Err k) m = Err k

abbrev pub kept : Result Reference Refusal → List ℕ → List ℕ
kept (Ok (Full parts)) l = leaves_of (full_text parts) l
kept (Ok (BareText z)) l = leaves_of (head_text z.zone z.band) l
kept (Err k) l = l

-- The answer, of zone, hemisphere, band, p, easting and northing, in a buffer of m bytes.
unfoldable pub write_of : ℤ → Bool → ℕ → ℤ → ℤ → ℤ → ℕ → Result ℕ Refusal
write_of zone north band p e n m = answered (composed zone north band p e n) m

-- The whole final content of the buffer.
unfoldable pub write_leaves : ℤ → Bool → ℕ → ℤ → ℤ → ℤ → List ℕ → List ℕ
write_leaves zone north band p e n l = kept (composed zone north band p e n) l
