-- `rows::candidate_of` meets its contract: what the place is above the base, and five rounds more, is a count.
-- Assumes nothing.
use mathlib.Core.Path.{◌≡◌, ap, ◌∙◌}
use Prim.Native.Nat.{◌+◌, ◌%◌}
use native.Mathlib.Omega.{arith}
use lib.Dec.{lit<, lit≤}
use lib.IntN.{ℤ, pos, negsuc, nat_abs, ◌+ℤ◌, ◌-ℤ◌}
use mir.Syntax.{w64}
use mir.Val.{SFits, to_z, of_z}
use mir.Facts.{to_z-of_z, to_z_pos}
use Rattle.whole.specs.Floor.{floor_mod}
use Rattle.whole.proofs.Parts.{up}
use Rattle.whole.proofs.Small.{Small, fits, computed, between, remainder}
use Rattle.rows.specs.inner.Direct.{candidate_from}
use Rattle.rows.proofs.Back.{base_fits, gap_fits, gap_count, gap_mod, candidate_fits}
use Rattle.rows.proofs.candidate_of.Goals as goal
use Rattle.rows.proofs.candidate_of.Goals.{Start}

near : (s : Start) → Small 90 s.args.lowest
near s = between (negsuc 89) (pos 90) s.args.lowest (computed 90 (negsuc 89) tt) (computed 90 (pos 90) tt) (s.requires.0, s.requires.1)

low : (s : Start) → to_z w64 (of_z w64 s.args.lowest) ≡ s.args.lowest
low s = to_z-of_z s.ranges.lowest

place : (s : Start) → to_z w64 (s.args.place + 100) ≡ pos (s.args.place + 100)
place s = to_z_pos w64 {n = s.args.place + 100} (omega (arith, s.requires.2))

base : (s : Start) → to_z w64 (of_z w64 (to_z w64 (of_z w64 s.args.lowest) -ℤ pos 1)) ≡ s.args.lowest -ℤ pos 1
base s = rw (low s, to_z-of_z (base_fits s.args.lowest (near s)))

abbrev between_of : Start → ℤ
between_of s = pos (s.args.place + 100) -ℤ (s.args.lowest -ℤ pos 1)

abbrev written : Start → ℤ
written s = to_z w64 (s.args.place + 100) -ℤ to_z w64 (of_z w64 (to_z w64 (of_z w64 s.args.lowest) -ℤ pos 1))

gap : (s : Start) → to_z w64 (of_z w64 (written s)) ≡ pos (up (between_of s))
gap s =
    let l = s.args.lowest in
    rw (place s, base s, to_z-of_z (gap_fits l (near s) s.args.place s.requires.2)) (gap_count l (near s) s.args.place s.requires.2)

small : (z : ℤ) → SFits w64 (pos (floor_mod z 20))
small z = fits (remainder z (lit< tt)) (lit≤ tt)

-- the sum, as it is read back
sum : (s : Start) → to_z w64 (of_z w64 (to_z w64 (of_z w64 s.args.lowest) -ℤ pos 1)) +ℤ to_z w64 (nat_abs (to_z w64 (of_z w64 (written s))) % 20) ≡ candidate_from s.args.lowest (s.args.place % 20)
sum s =
    let l = s.args.lowest in
    rw (gap s, base s, gap_mod l (near s) s.args.place s.requires.2, to_z_pos w64 (small (pos (s.args.place % 20) -ℤ (l -ℤ pos 1))).sfits)

pub returns : goal.returns
returns s =
    ap (λ (z : ℤ). to_z w64 (of_z w64 z)) (sum s) ∙ to_z-of_z (candidate_fits s.args.lowest (near s) (s.args.place % 20))
