-- Powers of ten. Assumes nothing.
use mathlib.Core.Path.{◌≡◌, sym, ap, ◌∙◌}
use Prim.Native.Nat.{ℕ, ◌+◌, ◌-◌, ◌*◌, ◌^◌, ◌≤◌, ◌<◌}
use native.Mathlib.Nat.{mul-le-mul_left, mul-one, one-le-pow, zero-lt-suc}
use native.Mathlib.Omega.{arith}
use borrow.Author.Tests.{le-ltb}
use lib.Pow.{pow-add}
use Rattle.whole.specs.Powers.{power_of_ten}

pub ten_is : (k : ℕ) → k ≤ 11 → power_of_ten k ≡ 10 ^ k
unfolding power_of_ten
ten_is k h = rw (le-ltb 11 k h)

pub ten_pos : (k : ℕ) → 0 < 10 ^ k
ten_pos k = one-le-pow k 10 (zero-lt-suc 9)

-- digits and what is below them
pub ten_split : (p : ℕ) → p ≤ 11 → 10 ^ p * 10 ^ (11 - p) ≡ 100000000000
ten_split p h = let e : p + (11 - p) ≡ 11 = omega arith in sym (pow-add 10 p (11 - p)) ∙ ap (λ (k : ℕ). 10 ^ k) e

pub ten_le : (k : ℕ) → k ≤ 11 → 10 ^ k ≤ 100000000000
ten_le k h =
    let s = ten_split k h in
    let p = ten_pos (11 - k) in
    let m = mul-le-mul_left (10 ^ k) p in
    omega (arith, mul-one (10 ^ k))
