-- What is written is as long as document 01 says, 27 bytes at most, and in such a buffer nothing is refused for its length.
-- Assumes nothing.
use mathlib.Core.Path.{◌≡◌, refl, sym, ◌∙◌}
use mathlib.Core.Bool.{Bool, true, false, cond}
use mathlib.Core.List.{List}
use Prim.Native.Nat.{ℕ, ◌+◌, ◌*◌, ◌≤◌}
use native.Mathlib.Omega.{arith}
use borrow.Author.Tests.{ltb-true}
use lib.IntN.{ℤ, pos, negsuc}
use lib.ListN.{length}
use lib.Signed.{lt_z}
use Rattle.whole.specs.Floor.{fold}
use Rattle.whole.proofs.Parts.{clash}
use Rattle.position.specs.declared.Parts.{Parts}
use Rattle.composer.specs.declared.BareZone.{BareZone}
use Rattle.writer.specs.Text.{head_text, full_text}
use Rattle.writer.specs.inner.Lengths.{head_length}
use Rattle.composer.specs.Compose.{parts_at, composed}
use Rattle.writer.specs.Write.{fit_of, answered, write_of}
use Rattle.writer.proofs.Fit.{room, fitted}
use Rattle.writer.proofs.Stores.{head_length_lem, length_le, full_length}
use Rattle.composer.proofs.Stages.{full, bare, few}
use Rattle.laws.specs.Trips.{length_of, back_of}
use Rattle.std.specs.Prelude.{Result, Ok, Err}
use Rattle.rules.specs.declared.Refusal.{Refusal}
use Rattle.composer.specs.declared.Reference.{Reference}
use Rattle.composer.specs.declared.Reference.TheVariants.{Full, Bare as BareText}

-- a text that has room is not refused
not_refused : (t : List ℕ) (m : ℕ) (k : Refusal) → length t ≤ m → fit_of t m ≡ Err k → ⊥
not_refused t m k h x = let y : Ok (length t) ≡ Err k = sym (room t m h) ∙ x in clash (cc)

-- the sum of the writer's parts is the rule
sum_by : (n : ℕ) (ups : Bool) → cond ups 1 3 + 2 + n + n ≡ cond ups (3 + 2 * n) (5 + 2 * n)
sum_by n true = omega arith
sum_by n false = omega arith

digits_by : (zone p : ℤ) → lt_z p (pos 0) ≡ false → head_length zone + 2 + fold p + fold p ≡ length_of zone p
unfolding head_length
digits_by zone (pos n) t = sum_by n (lt_z zone (pos 1))
digits_by zone (negsuc n) t = clash (cc)

bare_by : (zone p : ℤ) → lt_z p (pos 0) ≡ true → head_length zone ≡ length_of zone p
unfolding head_length
bare_by zone (pos n) t = absurd (omega (arith, ltb-true n 0 t))
bare_by zone (negsuc n) t = refl

module _ (zone : ℤ) (north : Bool) (band : ℕ) (p e n : ℤ) where
  full_is : (parts : Parts) → composed zone north band p e n ≡ Ok (Full parts) → length (full_text parts) ≡ length_of zone p
  unfolding parts_at
  full_is parts x =
      let f = full zone north band p e n parts x in
      full_length parts ∙ rw f.is (digits_by zone p f.digits)

  bare_is : (z : BareZone) → composed zone north band p e n ≡ Ok (BareText z) → length (head_text z.zone z.band) ≡ length_of zone p
  bare_is z x =
      let f = bare zone north band p e n z x in
      head_length_lem z.zone z.band ∙ rw f.is (bare_by zone p f.no_digits)

  full_le : (parts : Parts) → composed zone north band p e n ≡ Ok (Full parts) → length (full_text parts) ≤ 27
  full_le parts x = omega (arith, full_length parts, length_le parts.zone, few zone north band p e n parts x)

  bare_le : (z : BareZone) → length (head_text z.zone z.band) ≤ 27
  bare_le z = omega (arith, head_length_lem z.zone z.band, length_le z.zone)

  -- by what is composed
  by_composed : (c : Result Reference Refusal) (m k : ℕ) → composed zone north band p e n ≡ c → answered c m ≡ Ok k → (k ≡ length_of zone p) × (k ≤ m)
  by_composed (Ok (Full parts)) m k x a = let f = fitted (full_text parts) m k a in (f.0 ∙ full_is parts x, f.1)
  by_composed (Ok (BareText z)) m k x a = let f = fitted (head_text z.zone z.band) m k a in (f.0 ∙ bare_is z x, f.1)
  by_composed (Err j) m k x a = clash (cc)

  refused_by : (c : Result Reference Refusal) (m : ℕ) (k : Refusal) → composed zone north band p e n ≡ c → 27 ≤ m → answered c m ≡ Err k → c ≡ Err k
  refused_by (Ok (Full parts)) m k x h a = let l = full_le parts x in absurd (not_refused (full_text parts) m k (omega arith) a)
  refused_by (Ok (BareText z)) m k x h a = let l = bare_le z in absurd (not_refused (head_text z.zone z.band) m k (omega arith) a)
  refused_by (Err j) m k x h a = cc

  -- the length that is answered is the rule's, and the buffer has that many bytes
  pub length_rule : (m k : ℕ) → write_of zone north band p e n m ≡ Ok k → (k ≡ length_of zone p) × (k ≤ m)
  unfolding write_of
  length_rule m k a = by_composed (composed zone north band p e n) m k refl a

  -- what is refused in 27 bytes is refused by 14 to 19
  pub refused_back : (m : ℕ) (k : Refusal) → 27 ≤ m → write_of zone north band p e n m ≡ Err k → back_of zone north band p e n ≡ Err k
  unfolding write_of back_of
  refused_back m k h a = rw (refused_by (composed zone north band p e n) m k refl h a)
