-- `listing::Line::put_field` meets its contract, by the sign of the number.
-- Assumes nothing.
use Rattle.std.proofs.Common.{◌≡◌, ◌++◌, ◌∷◌, List, ℕ, ℤ, pos, negsuc, true, false, ap, refl, add-one, arith}
use borrow.Author.Tests.{ltb-true}
use lib.IntN.{nat_abs}
use lib.Signed.{lt_z}
use mir.Facts.{to_z-of_z}
use Rattle.listing.specs.Numerals.{decimal, signed}
use Rattle.listing.proofs.Line.put_field.Goals as goal
use Rattle.listing.proofs.Line.put_field.Goals.{then-z-lt0, else-z-lt0}

negative : (z : ℤ) → lt_z z (pos 0) ≡ true → 45 ∷ decimal (nat_abs z) ≡ signed z
unfolding signed
negative (pos n) e = absurd (omega (arith, ltb-true n 0 e))
negative (negsuc n) e = rw add-one

positive : (z : ℤ) → lt_z z (pos 0) ≡ false → decimal (nat_abs z) ≡ signed z
unfolding signed
positive (pos n) e = refl
positive (negsuc n) e = let f : true ≡ false = e in cc

pub returns : goal.returns
returns c =
    let z = to_z-of_z c.ranges.z in
    let n = rw z at c.unsigned_abs.ensures.value in
    let t = rw n at c.put_number.ensures in
    elim c.if-z-lt0.branch [
      | then-z-lt0 w ↦ let e = negative c.args.z (rw z at w.if-z-lt0.true) in
          rw (c.put-2.ensures, w.self-is, w.put.ensures, t) (ap (λ (s : List ℕ). 32 ∷ (s ++ c.args.self.now)) e)
      | else-z-lt0 w ↦ let e = positive c.args.z (rw z at w.if-z-lt0.false) in
          rw (c.put-2.ensures, w.self-is, t) (ap (λ (s : List ℕ). 32 ∷ (s ++ c.args.self.now)) e)
    ]
