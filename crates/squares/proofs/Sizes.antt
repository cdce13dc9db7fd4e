-- Corners and edges of the squares that are read fit 64 bits. Assumes nothing.
use mathlib.Core.Path.{◌≡◌, refl, ◌∙◌}
use mathlib.Core.Bool.{Bool, true, false, cond}
use Prim.Native.Nat.{◌≤◌}
use native.Mathlib.Omega.{arith}
use lib.Dec.{lit≤}
use lib.IntN.{ℤ, pos, negsuc, ◌+ℤ◌, ◌-ℤ◌}
use lib.Signed.{lt_z}
use mir.Syntax.{w64}
use mir.Val.{SFits}
use Rattle.whole.proofs.Parts.{up, dn, clash, lt_yes, lt_no}
use Rattle.whole.proofs.Small.{Small, fits, computed, count, sum, difference}
use Rattle.position.specs.inner.Counts.{exact}
use Rattle.position.specs.Squares.{half_of, side_length, corner_of}
use Rattle.position.proofs.Squares.{half_le}

exact_by : (z : ℤ) (a b : Bool) → lt_z z (negsuc 9007199254740991) ≡ a → lt_z z (pos 9007199254740992) ≡ b → cond a false b ≡ true → Small 9007199254740992 z
unfolding up dn
exact_by z true b p q e = let f : false ≡ true = e in clash (cc)
exact_by z false b p q e =
    let h = lt_no z (negsuc 9007199254740991) p in
    let k = lt_yes z (pos 9007199254740992) (q ∙ e) in
    record { least = omega arith; most = omega arith }

-- a count that f64 holds exactly is below 2^53 in size
exact_small : (z : ℤ) → exact z ≡ true → Small 9007199254740992 z
unfolding exact
exact_small z e = exact_by z (lt_z z (negsuc 9007199254740991)) (lt_z z (pos 9007199254740992)) refl refl e

corner_by : (p c : ℤ) (t : Bool) → Small 9007199254740992 c → Small 9007299254740992 (cond t (pos 0) (c -ℤ pos (half_of p)))
corner_by p c true s = computed 9007299254740992 (pos 0) tt
corner_by p c false s = difference c (pos (half_of p)) s (count 100000000000 (half_of p) (half_le p))

corner_small : (p c : ℤ) → exact c ≡ true → Small 9007299254740992 (corner_of p c)
unfolding corner_of
corner_small p c e = corner_by p c (lt_z c (pos (half_of p))) (exact_small c e)

pub side_le : (p : ℤ) → side_length p ≤ 200000000000
unfolding side_length
side_le p = let h = half_le p in omega arith

-- the edge across from the corner
pub edge_fits : (p c : ℤ) → exact c ≡ true → SFits w64 (corner_of p c +ℤ pos (side_length p))
edge_fits p c e =
    fits (sum (corner_of p c) (pos (side_length p)) (corner_small p c e) (count 200000000000 (side_length p) (side_le p))) (lit≤ tt)
