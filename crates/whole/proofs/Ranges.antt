-- What is not outside a range is inside. Assumes nothing.
use mathlib.Core.Path.{◌≡◌, refl, sym, subst}
use mathlib.Core.Bool.{Bool, true, false, cond}
use native.Mathlib.Omega.{arith}
use lib.Dec.{T}
use lib.IntN.{ℤ}
use lib.Signed.{lt_z, ◌≤ℤ◌}
use Rattle.whole.specs.Compare.{outside}
use Rattle.whole.proofs.Parts.{clash, lt_no, le_true}

both_no : (below above : Bool) → cond below true above ≡ false → (below ≡ false) × (above ≡ false)
both_no true above e = clash (cc)
both_no false above e = (refl, e)

-- neither below it nor above it
pub not_outside : (low high z : ℤ) → outside low high z ≡ false → (lt_z z low ≡ false) × (lt_z high z ≡ false)
unfolding outside
not_outside low high z e = both_no (lt_z z low) (lt_z high z) e

-- as a contract says it
pub in_range_lem : (low high z : ℤ) → outside low high z ≡ false → (low ≤ℤ z) × (z ≤ℤ high)
in_range_lem low high z e =
    let t = not_outside low high z e in
    let h = lt_no z low t.0 in
    let k = lt_no high z t.1 in
    (record { le = subst T (sym (le_true low z (omega arith))) tt }, record { le = subst T (sym (le_true z high (omega arith))) tt })
