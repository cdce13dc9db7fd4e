-- Small counts are exact, exact ones are f64, and so is the number of units in a metre. Assumes nothing.
use mathlib.Core.Path.{◌≡◌, refl, ◌∙◌}
use mathlib.Core.Bool.{Bool, true, false, cond}
use Prim.Native.Nat.{◌^◌}
use native.Mathlib.Nat.{le_of_lt}
use native.Mathlib.Omega.{arith}
use borrow.Author.Tests.{ltb-true, ltb-false}
use lib.Dec.{T, le→leb, lt→ltb}
use lib.IntN.{ℤ, pos, negsuc}
use lib.Ieee.{binary64, in_float, of_int, of_bits}
use lib.Signed.{lt_z}
use Rattle.whole.proofs.Parts.{up, dn, lt_yes, lt_no, clash}
use Rattle.whole.proofs.Small.{Small}
use Rattle.position.specs.inner.Counts.{exact}

-- every count of a position in range is far below this
abbrev pub Exactly : ℤ → Type 0
Exactly z = Small 9007199254740991 z

module _ (z : ℤ) (s : Small 9007199254740991 z) where
  by_tests : (a b : Bool) → lt_z z (negsuc 9007199254740991) ≡ a → lt_z z (pos 9007199254740992) ≡ b → cond a false b ≡ true
  unfolding up dn
  by_tests true b p q = let h = lt_yes z (negsuc 9007199254740991) p in let k = s.least in absurd (omega arith)
  by_tests false true p q = refl
  by_tests false false p q = let h = lt_no z (pos 9007199254740992) q in let k = s.most in absurd (omega arith)

  pub small_exact : exact z ≡ true
  unfolding exact
  small_exact = by_tests _ _ refl refl

-- so the cast of an exact count rounds nothing
float_by : (z : ℤ) (a b : Bool) → lt_z z (negsuc 9007199254740991) ≡ a → lt_z z (pos 9007199254740992) ≡ b → cond a false b ≡ true → T (in_float binary64 z)
unfolding in_float
float_by z true b p q e = clash (cc)
float_by (pos n) false b p q e = le→leb n (2 ^ 53) (le_of_lt (ltb-true n 9007199254740992 (q ∙ e)))
float_by (negsuc n) false b p q e = let k = ltb-false 9007199254740991 n p in lt→ltb n (2 ^ 53) (omega arith)

pub exact_float : (z : ℤ) → exact z ≡ true → T (in_float binary64 z)
unfolding exact
exact_float z e = float_by z (lt_z z (negsuc 9007199254740991)) (lt_z z (pos 9007199254740992)) refl refl e

-- the literal is the number 2,000,000
pub two_million : of_bits binary64 4701340746312056832 ≡ of_int binary64 (pos 2000000)
unfolding of_bits of_int
two_million = refl
