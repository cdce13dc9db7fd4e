-- By what shortening refuses: "reading's refusals; 21 if it is bare or q is not 0..p; 20." Of writing's numbers it meets 20
-- alone. Assumes nothing.
use mathlib.Core.Path.{◌≡◌, refl, ap, ◌∙◌}
use mathlib.Core.Bool.{Bool, true, false, cond}
use mathlib.Core.List.{List}
use mathlib.Core.Logic.{◌⊎◌, inl, inr}
use Prim.Native.Nat.{ℕ}
use native.Mathlib.Omega.{arith}
use borrow.Author.Tests.{ltb-false}
use lib.Dec.{ltb}
use lib.IntN.{ℤ, pos, negsuc}
use lib.ListN.{length}
use Rattle.whole.specs.Compare.{outside}
use Rattle.whole.proofs.Parts.{clash}
use Rattle.whole.proofs.Ranges.{not_outside}
use Rattle.position.specs.declared.Position.{Position}
use Rattle.reader.specs.Read.{read_of}
use Rattle.composer.specs.Compose.{composed}
use Rattle.writer.specs.Text.{head_text, full_text}
use Rattle.writer.specs.Write.{fit_of, answered, write_of}
use Rattle.squares.specs.Shorten.{corner_written, shortened, short_of}
use Rattle.laws.specs.Squares.{short_text}
use Rattle.laws.proofs.Shorts.{shortens}
use Rattle.std.specs.Prelude.{Result, Ok, Err}
use Rattle.rules.specs.declared.Refusal.{Refusal}
use Rattle.rules.specs.declared.Refusal.TheVariants.{ShortOutput, NotShortened}
use Rattle.reader.specs.declared.Reading.{Reading}
use Rattle.reader.specs.declared.Reading.TheVariants.{Square, Bare}
use Rattle.composer.specs.declared.Reference.{Reference}
use Rattle.composer.specs.declared.Reference.TheVariants.{Full, Bare as BareText}

-- ---- what is written in one buffer is refused in another by 20 alone

fit_by : (t : List ℕ) (k : Refusal) (short : Bool) → cond short (Err ShortOutput) (Ok (length t)) ≡ Err k → k ≡ ShortOutput
fit_by t k true x = cc
fit_by t k false x = clash (cc)

by_composed : (c : Result Reference Refusal) (m : ℕ) (k : Refusal) (l i : ℕ) → answered c m ≡ Err k → answered c l ≡ Ok i → k ≡ ShortOutput
unfolding fit_of
by_composed (Ok (Full parts)) m k l i x y = fit_by (full_text parts) k (ltb m (length (full_text parts))) x
by_composed (Ok (BareText z)) m k l i x y = fit_by (head_text z.zone z.band) k (ltb m (length (head_text z.zone z.band))) x
by_composed (Err j) m k l i x y = clash (cc)

pub room_alone : (zone : ℤ) (north : Bool) (band : ℕ) (p e n : ℤ) (m : ℕ) (k : Refusal) (l i : ℕ)
    → write_of zone north band p e n m ≡ Err k → write_of zone north band p e n l ≡ Ok i → k ≡ ShortOutput
unfolding write_of
room_alone zone north band p e n m k l i x y = by_composed (composed zone north band p e n) m k l i x y

-- ---- shortening

module _ (s : List ℕ) (m : ℕ) (k : Refusal) where
  -- what shortening answers of a square and q in 0..p is what writing its corner answers
  as_corner : (x : Position) (q : ℤ) (l i : ℕ) → read_of s ≡ Ok (Square x) → outside (pos 0) x.p q ≡ false → short_of s q l ≡ Ok i → corner_written x q l ≡ Ok i
  unfolding short_of
  as_corner x q l i e t y = rw (e, t) at y

  -- a corner of 0..p digits is refused by 20 alone
  corner_by : (x : Position) (p q : ℤ) → read_of s ≡ Ok (Square x) → x.p ≡ p → outside (pos 0) p q ≡ false → corner_written x q m ≡ Err k → k ≡ ShortOutput
  unfolding corner_written
  corner_by x p (negsuc i) e w t y = let h = (not_outside (pos 0) p (negsuc i) t).0 in clash (cc)
  corner_by x (negsuc n) (pos i) e w t y = let h = (not_outside (pos 0) (negsuc n) (pos i) t).1 in clash (cc)
  corner_by x (pos n) (pos i) e w t y =
      let o = shortens s x n i e w (ltb-false n i (not_outside (pos 0) (pos n) (pos i) t).1) in
      let text = short_text s o.head n i in
      let r = ap (λ (z : ℤ). outside (pos 0) z (pos i)) w ∙ t in
      room_alone _ _ _ _ _ _ m k _ _ y (as_corner x (pos i) (length text) (length text) e r (o.answer text (omega arith)))

  by_range : (x : Position) (q : ℤ) (t : Bool) → read_of s ≡ Ok (Square x) → outside (pos 0) x.p q ≡ t → cond t (Err NotShortened) (corner_written x q m) ≡ Err k → (k ≡ ShortOutput) ⊎ (k ≡ NotShortened)
  by_range x q true e o y = inr (cc)
  by_range x q false e o y = inl (corner_by x x.p q e refl o y)

  by_read : (q : ℤ) (a : Result (Reading Position) Refusal) → read_of s ≡ a → shortened a q m ≡ Err k → (read_of s ≡ Err k) ⊎ ((k ≡ ShortOutput) ⊎ (k ≡ NotShortened))
  by_read q (Err j) e y = inl (e ∙ ap Err (cc))
  by_read q (Ok (Bare x)) e y = inr (inr (cc))
  by_read q (Ok (Square x)) e y = inr (by_range x q (outside (pos 0) x.p q) e refl y)

  pub short_refused : (q : ℤ) → short_of s q m ≡ Err k → (read_of s ≡ Err k) ⊎ ((k ≡ ShortOutput) ⊎ (k ≡ NotShortened))
  unfolding short_of
  short_refused q y = by_read q (read_of s) refl y
