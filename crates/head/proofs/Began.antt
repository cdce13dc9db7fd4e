-- What stands behind a head: the tests that its text passed and what they found. Assumes nothing.
use mathlib.Core.Path.{◌≡◌, sym, ap}
use mathlib.Core.Bool.{false}
use mathlib.Core.List.{List}
use Prim.Native.Nat.{ℕ, ◌+◌, ◌<◌, ◌≤◌}
use borrow.Author.Tests.{ltb-false, leb-false}
use lib.Dec.{ltb, leb}
use lib.IntN.{pos}
use lib.ListN.{length}
use Rattle.whole.proofs.Choice.{past}
use Rattle.whole.proofs.Parts.{clash}
use Rattle.letters.specs.Letters.{place_of}
use Rattle.letters.proofs.Places.{in_set}
use Rattle.bands.specs.Bands.{bands_of}
use Rattle.words.specs.Bytes.{has_high}
use Rattle.runs.specs.Runs.{lead_of}
use Rattle.head.specs.declared.Head.{Head}
use Rattle.head.specs.Head.{letter_in, is_inv, zone_wrong, head_of}
use Rattle.std.specs.Prelude.{Some, Result, Ok, Err}
use Rattle.rules.specs.declared.Refusal.{Refusal}
use Rattle.rules.specs.declared.Refusal.TheVariants.{HighByte, Inv, WrongZone, LongZone, NoBand, WrongBand}

pub record Began (s : List ℕ) (h : Head) : Type 0 where
  pub plain : has_high s ≡ false
  pub not_inv : is_inv s ≡ false
  pub zone_right : zone_wrong (lead_of s) ≡ false
  pub few : (lead_of s).count ≤ 2
  pub more : (lead_of s).count < length s
  pub zone : h.zone ≡ pos (lead_of s).value
  pub band : h.band ≡ letter_in s (lead_of s).count
  pub k : ℕ
  pub place : place_of (bands_of (pos (lead_of s).value)) (letter_in s (lead_of s).count) ≡ Some k
  pub next : h.next ≡ (lead_of s).count + 1

abbrev head_at : List ℕ → ℕ → Result Head Refusal
head_at s k = Ok (record { zone = pos (lead_of s).value; band = letter_in s (lead_of s).count; next = (lead_of s).count + 1 })

differ : (n : Refusal) (h : Head) → Err n ≡ Ok h → ⊥
differ n h e = clash (cc)

pub began : (s : List ℕ) (h : Head) → head_of s ≡ Ok h → Began s h
unfolding head_of
began s h e =
    let a = past (has_high s) _ _ _ (differ HighByte h) e in
    let b = past (is_inv s) _ _ _ (differ Inv h) a.1 in
    let c = past (zone_wrong (lead_of s)) _ _ _ (differ WrongZone h) b.1 in
    let d = past (ltb 2 (lead_of s).count) _ _ _ (differ LongZone h) c.1 in
    let f = past (leb (length s) (lead_of s).count) _ _ _ (differ NoBand h) d.1 in
    let g = in_set (place_of (bands_of (pos (lead_of s).value)) (letter_in s (lead_of s).count)) (Err WrongBand) (head_at s) (Ok h) (differ WrongBand h) f.1 in
    let k : record { zone = pos (lead_of s).value; band = letter_in s (lead_of s).count; next = (lead_of s).count + 1 } ≡ h = cc in
    record {
      plain = a.0;
      not_inv = b.0;
      zone_right = c.0;
      few = ltb-false 2 _ d.0;
      more = leb-false _ _ f.0;
      zone = ap (λ (x : Head). x.zone) (sym k);
      band = ap (λ (x : Head). x.band) (sym k);
      k = g.k;
      place = g.is;
      next = ap (λ (x : Head). x.next) (sym k);
    }
