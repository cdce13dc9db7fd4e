-- Small numbers: a size that sums, differences, products and quotients keep, so that each of them fits 64 bits.
-- One law for each operation, cited wherever code adds, subtracts or multiplies signed numbers. Assumes nothing.
use mathlib.Core.Path.{sym, subst}
use Prim.Native.Nat.{ℕ, suc, ◌+◌, ◌*◌, ◌^◌, ◌≤◌, ◌<◌}
use native.Mathlib.Nat.{add-mul, mul-le-mul_right, div-le_self}
use native.Mathlib.Omega.{arith}
use lib.Dec.{T, leb, leb→le}
use lib.IntN.{ℤ, pos, negsuc, nat_abs, ◌+ℤ◌, ◌-ℤ◌, ◌*ℤ◌}
use lib.Signed.{◌≤ℤ◌}
use mir.Syntax.{w64}
use mir.Val.{SFits}
use Rattle.whole.specs.Floor.{floor_div, floor_mod}
use Rattle.whole.proofs.Parts.{up, dn, abs_parts, sfits_by, add_parts, sub_parts, up_mul, dn_mul, le_true, ≤ℤ-parts}
use Rattle.whole.proofs.Floor.{div_pos, div_neg, floor_mod_lt}

-- from -m to m
pub record Small (m : ℕ) (z : ℤ) : Type 0 where
  pub least : dn z ≤ up z + m
  pub most : up z ≤ dn z + m

pub fits : {m : ℕ} {z : ℤ} → Small m z → m ≤ 2 ^ 62 → SFits w64 z
fits {m} {z} s h = let a = s.least in let b = s.most in sfits_by w64 z (omega arith) (omega arith)

-- what is small: a numeral, by computation; a count; what lies between two small numbers; what is smaller
pub computed : (m : ℕ) (z : ℤ) → T (leb (nat_abs z) m) → Small m z
computed m z t =
    let h = leb→le (nat_abs z) m t in
    let e = abs_parts z in
    record { least = omega arith; most = omega arith }

pub count : (m n : ℕ) → n ≤ m → Small m (pos n)
unfolding up dn
count m n h = record { least = omega arith; most = omega arith }

pub between : {m : ℕ} (a b z : ℤ) → Small m a → Small m b → (a ≤ℤ z) × (z ≤ℤ b) → Small m z
between a b z s t h =
    let x = ≤ℤ-parts a z h.0 in
    let y = ≤ℤ-parts z b h.1 in
    let p = s.least in
    let q = t.most in
    record { least = omega arith; most = omega arith }

-- the operations
pub sum : {m n : ℕ} (a b : ℤ) → Small m a → Small n b → Small (m + n) (a +ℤ b)
sum a b s t =
    let p = add_parts a b in
    let w = s.least in
    let x = s.most in
    let y = t.least in
    let z = t.most in
    record { least = omega arith; most = omega arith }

pub difference : {m n : ℕ} (a b : ℤ) → Small m a → Small n b → Small (m + n) (a -ℤ b)
difference a b s t =
    let p = sub_parts a b in
    let w = s.least in
    let x = s.most in
    let y = t.least in
    let z = t.most in
    record { least = omega arith; most = omega arith }

pub product : {m : ℕ} (a : ℤ) (k : ℕ) → Small m a → Small (m * k) (a *ℤ pos k)
product {m} a k s =
    let u = up_mul a k in
    let v = dn_mul a k in
    let x = mul-le-mul_right k s.least in
    let y = mul-le-mul_right k s.most in
    let e = add-mul (up a) m k in
    let f = add-mul (dn a) m k in
    record { least = omega arith; most = omega arith }

pub quotient : {m : ℕ} (z : ℤ) {d : ℕ} → 0 < d → Small m z → Small m (floor_div z d)
unfolding up dn
quotient (pos n) {d} h s =
    let b = s.most in
    let k = div-le_self n d in
    rw (div_pos n h) (record { least = omega arith; most = omega arith })
quotient (negsuc n) {d} h s =
    let a = s.least in
    let k = div-le_self n d in
    rw (div_neg n h) (record { least = omega arith; most = omega arith })

pub remainder : (z : ℤ) {d : ℕ} → 0 < d → Small d (pos (floor_mod z d))
remainder z {d} h = let k = floor_mod_lt z h in count d (floor_mod z d) (omega arith)

-- a range in a contract, from bounds on the parts
pub at_least : (a : ℕ) (z : ℤ) → dn z ≤ up z + suc a → negsuc a ≤ℤ z
unfolding up dn
at_least a z h = let x = le_true (negsuc a) z (omega arith) in record { le = subst T (sym x) tt }

pub at_most : (b : ℕ) (z : ℤ) → up z ≤ dn z + b → z ≤ℤ pos b
unfolding up dn
at_most b z h = let x = le_true z (pos b) (omega arith) in record { le = subst T (sym x) tt }
