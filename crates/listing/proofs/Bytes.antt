-- The bytes of eight digits' number are the digits; and what a line's buffer holds behind its front. Assumes nothing.
use mathlib.Core.Path.{◌≡◌, sym, ap, ◌∙◌}
use mathlib.Core.Bool.{true}
use mathlib.Core.List.{List, [], ◌∷◌, ◌++◌}
use Prim.Native.Nat.{ℕ, zero, suc, ◌+◌, ◌-◌, ◌<◌, ◌≤◌}
use native.Mathlib.Omega.{arith}
use borrow.Rule.Slice.PartMut.{put_mid}
use lib.ListN.{length, take, drop, get_or, length-take}
use lib.Seq.{drop_at, drop-drop}
use Rattle.std.specs.Int.{w64, to_le_bytes}
use Rattle.std.proofs.lemmas.Nat.{le_bytes_8}
use Rattle.words.specs.Bytes.{all_digits}
use Rattle.words.specs.Words.{word_of}
use Rattle.words.proofs.Laws.{digit_range, all_head, all_tail}
use Rattle.words.proofs.Words.{word_is}
use Rattle.runs.specs.Runs.{last_digits}
use Rattle.runs.proofs.Decimals.{digits_length, digits_all}

-- each digit is a byte
digit_byte : (ds : List ℕ) → all_digits ds ≡ true → (i : ℕ) → get_or ds i 0 < 256
digit_byte [] t i = omega arith
digit_byte (d ∷ ds) t zero = let r = digit_range d (all_head d ds t) in omega arith
digit_byte (d ∷ ds) t (suc i) = digit_byte ds (all_tail d ds t) i

-- eight digits are the bytes of their number
pub eight_bytes : (n : ℕ) → to_le_bytes w64 (word_of (last_digits 8 n)) ≡ last_digits 8 n
eight_bytes n =
    let ds = last_digits 8 n in
    le_bytes_8 ds (word_of ds) (digits_length 8 n) (digit_byte ds (digits_all 8 n)) (sym (word_is ds (digits_length 8 n)))

-- eight bytes in front of those from `at` on
pub eight_before : (l ds t : List ℕ) (at : ℕ) → 8 ≤ at → at ≤ length l → length ds ≡ 8 → drop at l ≡ t
    → drop (at - 8) (put_mid (at - 8) (at - (at - 8)) l ds) ≡ ds ++ t
eight_before l ds t at low high n e =
    let m : length (take (at - 8) l) ≡ at - 8 = simp length-take (omega arith) in
    let k : at - 8 + (at - (at - 8)) ≡ at = omega arith in
    drop_at (take (at - 8) l) _ (at - 8) m ∙ ap (λ (r : List ℕ). ds ++ r) (drop-drop (at - (at - 8)) (at - 8) l ∙ ap (λ (i : ℕ). drop i l) k ∙ e)
