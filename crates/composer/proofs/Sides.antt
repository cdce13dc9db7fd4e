-- Where there are digits there is a side to cut by, and to cut by it is to divide by a constant. Assumes nothing.
use mathlib.Core.Path.{◌≡◌, refl, sym, ap, ◌∙◌}
use mathlib.Core.Bool.{Bool, true, false, cond}
use Prim.Native.Nat.{ℕ, ◌+◌, ◌-◌, ◌*◌, ◌/◌, ◌%◌, ◌^◌, ◌≤◌, ◌<◌}
use native.Mathlib.Nat.{mul_assoc, mul-le-mul, mul-div-mul_right, mod-lt, pow-le-pow_right, le_of_lt, zero-lt-suc}
use native.Mathlib.Omega.{arith}
use borrow.Author.Tests.{ltb-false}
use lib.Dec.{ltb, lit<}
use lib.IntN.{ℤ, pos, negsuc}
use lib.Pow.{pow-add}
use lib.Signed.{lt_z, ◌≤ℤ◌}
use Rattle.whole.specs.Floor.{fold}
use Rattle.whole.specs.Powers.{power_of_ten}
use Rattle.whole.proofs.Parts.{up, dn, clash, ≤ℤ-parts}
use Rattle.whole.proofs.Powers.{ten_is, ten_pos}
use Rattle.position.specs.Squares.{half_of, side_length}
use Rattle.position.proofs.Squares.{side_pos}

pub some_side : (p : ℤ) → lt_z p (pos 0) ≡ false → p ≤ℤ pos 11 → 0 < side_length p
unfolding up dn
some_side (pos n) t h = let k = ≤ℤ-parts (pos n) (pos 11) h in side_pos n 0 (omega arith)
some_side (negsuc n) t h = let f : true ≡ false = t in clash (cc)

-- and the other way round: p is a number of digits up to 11, and its side is
pub record Sided (side n : ℕ) : Type 0 where
  pub few : n ≤ 11
  pub is : side ≡ 2 * 10 ^ (11 - n)

sided_by : (n : ℕ) (t : Bool) → ltb 11 n ≡ t → 0 < 2 * cond t 0 (10 ^ (11 - n)) → Sided (2 * cond t 0 (10 ^ (11 - n))) n
sided_by n true e h = absurd (omega arith)
sided_by n false e h = record { few = ltb-false 11 n e; is = refl }

pub sided : (p : ℤ) → 0 < side_length p → Sided (side_length p) (fold p)
unfolding side_length half_of
sided (pos n) h = sided_by n (ltb 11 n) refl h
sided (negsuc n) h = absurd (omega arith)

-- a side made greater by a power of ten divides as the side does what is made greater by it too
module _ (x n k c : ℕ) (whole : 2 * 10 ^ (11 - n) * 10 ^ k ≡ c) where
  scaled : x * 10 ^ k / c ≡ x / (2 * 10 ^ (11 - n))
  scaled = ap (λ (y : ℕ). x * 10 ^ k / y) (sym whole) ∙ mul-div-mul_right x (2 * 10 ^ (11 - n)) (ten_pos k)

-- the two constants: of up to seven digits a tile, of more 10 ^ 3 halves
greater : (n k m : ℕ) → 11 - n + k ≡ m → 2 * 10 ^ (11 - n) * 10 ^ k ≡ 2 * 10 ^ m
greater n k m e = mul_assoc 2 (10 ^ (11 - n)) (10 ^ k) ∙ ap (λ (y : ℕ). 2 * y) (sym (pow-add 10 (11 - n) k) ∙ ap (λ (j : ℕ). 10 ^ j) e)

pub cut_by : (x n k m : ℕ) → k ≤ 11 → 11 - n + k ≡ m → x * power_of_ten k / (2 * 10 ^ m) ≡ x / (2 * 10 ^ (11 - n))
cut_by x n k m few e = ap (λ (y : ℕ). x * y / (2 * 10 ^ m)) (ten_is k few) ∙ scaled x n k (2 * 10 ^ m) (greater n k m e)

-- what is divided fits
pub fits : (x k : ℕ) → k ≤ 7 → x % 200000000000 * power_of_ten k ≤ 2000000000000000000
fits x k h =
    let t = ten_is k (omega arith) in
    let m = mod-lt x {m = 200000000000} (lit< tt) in
    let q : power_of_ten k ≤ 10000000 = rw t (pow-le-pow_right {n = 10} (zero-lt-suc 9) {i = k} {j = 7} h) in
    mul-le-mul (le_of_lt m) q
