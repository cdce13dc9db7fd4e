-- What a buffer holds after the stores of a text's parts. Assumes nothing.
use mathlib.Core.Path.{◌≡◌, refl, sym, ap, ◌∙◌}
use mathlib.Core.Bool.{Bool, true, false, cond}
use mathlib.Core.List.{List, [], ◌∷◌, ◌++◌}
use Prim.Native.Nat.{ℕ, ◌+◌, ◌-◌, ◌/◌, ◌%◌, ◌≤◌, ◌<◌}
use native.Mathlib.Omega.{arith}
use lib.IntN.{ℤ, pos}
use lib.ListN.{length, set, take, drop, length-append, length-set}
use lib.Signed.{lt_z}
use borrow.Rule.Slice.PartMut.{put_mid}
use Rattle.std.proofs.Common.{add-one}
use Rattle.std.proofs.lemmas.List.{append_assoc, append-nil, drop-drop, drop-set, drop_all, length-take, length-drop, take_at, drop_at, set_at}
use Rattle.whole.specs.Floor.{fold}
use Rattle.runs.specs.Runs.{last_digits}
use Rattle.runs.proofs.Decimals.{digits_length}
use Rattle.position.specs.declared.Parts.{Parts}
use Rattle.writer.specs.Text.{head_text, block_text, full_text}
use Rattle.writer.specs.inner.Lengths.{head_length}
use Rattle.writer.specs.Write.{fit_of, leaves_of}
use Rattle.writer.proofs.Fit.{room, held, no_room, untouched}
use Rattle.std.specs.Prelude.{Ok, Err}
use Rattle.rules.specs.declared.Refusal.TheVariants.{ShortOutput}

-- one digit, from the last one on: those before it, then it, then what stood behind it
pub digit_step : (k x : ℕ) (l : List ℕ) → k < length l
    → last_digits (k + 1) x ++ drop (k + 1) l ≡ last_digits k (x / 10) ++ drop k (set l k (48 + x % 10))
unfolding last_digits
digit_step k x l h = rw (drop-set l k (48 + x % 10) h, add-one, append_assoc)

-- and two
pub two_step : (k x : ℕ) (l : List ℕ) → k + 1 < length l
    → last_digits (k + 2) x ++ drop (k + 2) l ≡ last_digits k (x / 100) ++ drop k (set (set l (k + 1) (48 + x % 100 % 10)) k (48 + x % 100 / 10))
two_step k x l h =
    let d : x % 100 % 10 ≡ x % 10 = omega arith in
    let e : x % 100 / 10 ≡ x / 10 % 10 = omega arith in
    let q : x / 100 ≡ x / 10 / 10 = omega arith in
    let m : k + 2 ≡ k + 1 + 1 = omega arith in
    rw (d, e, q, m) (digit_step (k + 1) x l h ∙ digit_step k (x / 10) (set l (k + 1) (48 + x % 10)) (simp length-set (omega arith)))

-- ---- the texts' lengths

head_by : (zone : ℤ) (band : ℕ) (t : Bool) → length (cond t (band ∷ []) (last_digits 2 (fold zone) ++ (band ∷ []))) ≡ cond t 1 3
head_by zone band true = refl
head_by zone band false = length-append (last_digits 2 (fold zone)) (band ∷ []) ∙ rw digits_length

pub head_length_lem : (zone : ℤ) (band : ℕ) → length (head_text zone band) ≡ head_length zone
unfolding head_text head_length
head_length_lem zone band = head_by zone band (lt_z zone (pos 1))

pub ups_length : (zone : ℤ) → lt_z zone (pos 1) ≡ true → head_length zone ≡ 1
unfolding head_length
ups_length zone t = rw t

pub utm_length : (zone : ℤ) → lt_z zone (pos 1) ≡ false → head_length zone ≡ 3
unfolding head_length
utm_length zone t = rw t

pub length_le : (zone : ℤ) → head_length zone ≤ 3
unfolding head_length
length_le zone = by (lt_z zone (pos 1))
  where
    by : (t : Bool) → cond t 1 3 ≤ 3
    by true = omega arith
    by false = omega arith

pub block_length : (parts : Parts) → length (block_text parts) ≡ 2 + fold parts.p + fold parts.p
unfolding block_text
block_length parts = simp (length-append, digits_length) (omega arith)

-- "5+2p UTM, 3+2p UPS"
pub full_length : (parts : Parts) → length (full_text parts) ≡ head_length parts.zone + 2 + fold parts.p + fold parts.p
unfolding full_text
full_length parts =
    length-append (head_text parts.zone parts.band) _
    ∙ simp (block_length, head_length_lem) (omega arith)

-- ---- a part of the text in its own bytes

-- a byte in the last place
last_stored : (l : List ℕ) (b : ℕ) → length l ≡ 1 → set l 0 b ≡ b ∷ []
last_stored [] b h = absurd (omega arith)
last_stored (x ∷ []) b h = refl
last_stored (x ∷ y ∷ l) b h = absurd (omega arith)

pub ups_stored : (zone : ℤ) (band : ℕ) (l : List ℕ) → lt_z zone (pos 1) ≡ true → length l ≡ head_length zone → set l 0 band ≡ head_text zone band
unfolding head_text
ups_stored zone band l t h = rw t (last_stored l band (h ∙ ups_length zone t))

pub utm_stored : (zone : ℤ) (band : ℕ) (l a : List ℕ) → lt_z zone (pos 1) ≡ false → length l ≡ head_length zone → a ≡ last_digits 2 (fold zone)
    → set (a ++ drop 2 l) 2 band ≡ head_text zone band
unfolding head_text
utm_stored zone band [] a t h e = let k = utm_length zone t in absurd (omega arith)
utm_stored zone band (x ∷ []) a t h e = let k = utm_length zone t in absurd (omega arith)
utm_stored zone band (x ∷ y ∷ []) a t h e = let k = utm_length zone t in absurd (omega arith)
utm_stored zone band (x ∷ y ∷ z ∷ []) a t h e = rw (t, e) (set_at (last_digits 2 (fold zone)) z [] band 2 (digits_length 2 (fold zone)))
utm_stored zone band (x ∷ y ∷ z ∷ w ∷ l) a t h e = let k = utm_length zone t in absurd (omega arith)

-- a run in the last places, after one that is as long as what stands before them
end_stored : (a b c : List ℕ) (n k : ℕ) → length a ≡ n → length c ≤ k → put_mid n k (a ++ c) b ≡ a ++ b
end_stored a b c n k e h = rw (take_at a c n e, drop_at a c n e, drop_all k c h) (simp append-nil)

-- two letters, a run behind them, and another
pub block_stored : (parts : Parts) (n : ℕ) (l a b c : List ℕ) → n ≡ 2 + fold parts.p → length l ≡ 2 + fold parts.p + fold parts.p
    → c ≡ put_mid 2 (n - 2) (set (set l 0 parts.column) 1 parts.row) a
    → a ≡ last_digits (length (take (n - 2) (drop 2 (set (set l 0 parts.column) 1 parts.row)))) parts.easting
    → b ≡ last_digits (length (take (length c - n) (drop n c))) parts.northing → put_mid n (length c - n) c b ≡ block_text parts
unfolding block_text
block_stored parts n [] a b c e h g d f = absurd (omega arith)
block_stored parts n (x ∷ []) a b c e h g d f = absurd (omega arith)
block_stored parts n (x ∷ y ∷ l) a b c e h g d f =
    let p = fold parts.p in
    let i : length (take (n - 2) l) ≡ p = simp length-take (omega arith) in
    let east : a ≡ last_digits p parts.easting = rw i at d in
    let k : length a ≡ p = ap length east ∙ digits_length p parts.easting in
    let m : length c ≡ 2 + p + p = ap length g ∙ simp (length-append, length-drop) (omega arith) in
    let j : length (take (length c - n) (drop n c)) ≡ p = simp (length-take, length-drop) (omega arith) in
    let north : b ≡ last_digits p parts.northing = rw j at f in
    rw (g, ← east, ← north) (end_stored (parts.column ∷ parts.row ∷ a) b (drop (n - 2) l) n _ (omega arith) (simp (length-append, length-drop) (omega arith)))

-- ---- a text at a buffer's front

module _ (t l : List ℕ) (n : ℕ) (e : n ≡ length t) where
  -- too short a buffer
  pub short : length l < n → (Err ShortOutput ≡ fit_of t (length l)) × (l ≡ leaves_of t l)
  short h = (sym (no_room t (length l) (omega arith)), sym (untouched t l (omega arith)))

  -- a buffer with room
  pub long : n ≤ length l → (last : List ℕ) → last ≡ t ++ drop n l → (Ok n ≡ fit_of t (length l)) × (last ≡ leaves_of t l)
  long h last s =
      (rw e (sym (room t (length l) (omega arith))), s ∙ rw e (sym (held t l (omega arith))))

-- its two parts, one after the other
pub parts_stored : (h b l : List ℕ) (k n : ℕ) → k ≡ length h → n ≡ k + length b
    → take k (h ++ drop k l) ++ (b ++ drop (n - k) (drop k (h ++ drop k l))) ≡ h ++ b ++ drop n l
parts_stored h b l k n e d =
    let s : k + (n - k) ≡ n = omega arith in
    rw (take_at h (drop k l) k (sym e), drop_at h (drop k l) k (sym e)) (simp (drop-drop, append_assoc) (rw s))
