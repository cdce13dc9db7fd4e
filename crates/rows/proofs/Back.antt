-- The limits' fields as they are read back from their bits, and the candidate by the lowest row, step by step. Assumes nothing.
use mathlib.Core.Path.{◌≡◌, ap, ◌∙◌}
use Prim.Native.Nat.{ℕ, ◌+◌, ◌%◌, ◌<◌}
use native.Mathlib.Omega.{arith}
use lib.Dec.{lit<, lit≤}
use lib.IntN.{ℤ, pos, negsuc, ◌-ℤ◌}
use lib.Signed.{◌≤ℤ◌}
use mir.Syntax.{w64}
use mir.Val.{SFits, to_z, of_z}
use mir.Facts.{to_z-of_z}
use Rattle.whole.specs.Floor.{floor_mod}
use Rattle.whole.proofs.Parts.{up, dn, le_true, sub_parts}
use Rattle.whole.proofs.Floor.{floor_mod_lt, mod_parts}
use Rattle.whole.proofs.Signed.{is_count}
use Rattle.whole.proofs.Small.{Small, fits, count, sum, difference, remainder}
use Rattle.rows.specs.declared.Limits.{Limits}
use Rattle.rows.specs.Limits.{limits_of}
use Rattle.rows.specs.inner.Direct.{candidate_from}
use Rattle.rows.proofs.Direct.{lowest}
use Rattle.rows.proofs.Near.{limits_ranged}

pub low_back : (b : ℤ) (l : Limits) → l ≡ limits_of b → to_z w64 (of_z w64 l.low) ≡ lowest b
low_back b l e = ap (λ (l : Limits). to_z w64 (of_z w64 l.low)) e ∙ to_z-of_z (fits (limits_ranged b).low (lit≤ tt))

-- the lowest row as the candidate asks for it
pub near : (b : ℤ) → (negsuc 89 ≤ℤ lowest b) × (lowest b ≤ℤ pos 90)
unfolding up dn
near b =
    let s = (limits_ranged b).low in
    let l = s.least in
    let m = s.most in
    (record { le = rw (le_true (negsuc 89) (lowest b) (omega arith)) tt }, record { le = rw (le_true (lowest b) (pos 90) (omega arith)) tt })

module _ (low : ℤ) (s : Small 90 low) where
  base_small : Small 91 (low -ℤ pos 1)
  base_small = difference low (pos 1) s (count 1 1 (lit≤ tt))

  pub base_fits : SFits w64 (low -ℤ pos 1)
  base_fits = fits base_small (lit≤ tt)

  -- a letter's place and five rounds more, from the base: a count, whose remainder is that of the place less the base
  module _ (p : ℕ) (h : p < 40) where
    abbrev gap : ℤ
    gap = pos (p + 100) -ℤ (low -ℤ pos 1)

    gap_small : Small 231 gap
    gap_small = difference (pos (p + 100)) (low -ℤ pos 1) (count 140 (p + 100) (omega arith)) base_small

    pub gap_fits : SFits w64 gap
    gap_fits = fits gap_small (lit≤ tt)

    pub gap_count : gap ≡ pos (up gap)
    unfolding up dn
    gap_count =
        let e = sub_parts (pos (p + 100)) (low -ℤ pos 1) in
        let m = base_small.most in
        is_count gap (omega arith)

    pub gap_mod : up gap % 20 ≡ floor_mod (pos (p % 20) -ℤ (low -ℤ pos 1)) 20
    unfolding up dn
    gap_mod =
        let e = sub_parts (pos (p + 100)) (low -ℤ pos 1) in
        let m = base_small.most in
        let f = sub_parts (pos (p % 20)) (low -ℤ pos 1) in
        let g = mod_parts (pos (p % 20) -ℤ (low -ℤ pos 1)) 20 (lit< tt) in
        let k = floor_mod_lt (pos (p % 20) -ℤ (low -ℤ pos 1)) {d = 20} (lit< tt) in
        let z : dn gap ≡ 0 = ap dn gap_count in
        omega arith

  pub candidate_fits : (l : ℕ) → SFits w64 (candidate_from low l)
  candidate_fits l =
      fits (sum (low -ℤ pos 1) (pos (floor_mod (pos l -ℤ (low -ℤ pos 1)) 20)) base_small (remainder (pos l -ℤ (low -ℤ pos 1)) (lit< tt))) (lit≤ tt)
