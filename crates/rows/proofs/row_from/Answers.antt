-- `rows::row_from` meets its contract: the candidate is the row that is sought, where it is allowed.
-- Assumes nothing.
use mathlib.Core.Path.{◌≡◌, sym, refl, ◌∙◌}
use mathlib.Core.Bool.{Bool, true, false}
use Prim.Native.Nat.{ℕ, ◌%◌, ◌<◌}
use native.Mathlib.Omega.{arith}
use lib.IntN.{ℤ}
use mir.Syntax.{w64}
use mir.Val.{to_z, of_z}
use mir.Facts.{to_z-of_z}
use Rattle.std.specs.Bool.{then_some}
use Rattle.rows.specs.Limits.{limits_of}
use Rattle.rows.specs.Allowed.{allowed}
use Rattle.rows.specs.Resolve.{resolve}
use Rattle.rows.proofs.Direct.{lowest, candidate}
use Rattle.rows.proofs.Back.{low_back}
use Rattle.rows.proofs.Theorems.{taken, not_taken}
use Rattle.rows.proofs.row_from.Goals as goal
use Rattle.rows.proofs.row_from.Goals.{After-candidate_of-row, After-is_allowed_by, After-limits_of-l}

limits : (c : After-limits_of-l) → c.limits_of-l.result ≡ limits_of c.args.band
limits c = rw (to_z-of_z c.ranges.band) at c.limits_of-l.ensures

low : (c : After-limits_of-l) → to_z w64 (of_z w64 c.limits_of-l.result.low) ≡ lowest c.args.band
low c = low_back c.args.band c.limits_of-l.result (limits c)

row : (c : After-candidate_of-row) → to_z w64 (of_z w64 c.candidate_of-row.result) ≡ candidate c.args.band (c.args.place % 20)
unfolding candidate
row c = to_z-of_z {w = w64} (record { sfits = c.candidate_of-row.type_inv }) ∙ (rw (low (goal.at.After-candidate_of-row c).After-limits_of-l) at c.candidate_of-row.ensures)

is_ok : (c : After-is_allowed_by) → c.is_allowed_by.result ≡ allowed c.args.band c.args.column (candidate c.args.band (c.args.place % 20))
unfolding allowed
is_ok c =
    rw (limits (goal.at.After-is_allowed_by c).After-limits_of-l, to_z-of_z c.ranges.band, row (goal.at.After-is_allowed_by c).After-candidate_of-row) at c.is_allowed_by.ensures

if_allowed : (b : ℤ) (c l : ℕ) → l < 20 → (t : Bool) → allowed b c (candidate b l) ≡ t → then_some t (candidate b l) ≡ resolve 0 b c l
if_allowed b c l h true e = sym (taken b c l h e)
if_allowed b c l h false e = sym (not_taken b c l h e)

pub returns : goal.returns
returns c =
    let p = goal.at.returns c in
    let e = rw (is_ok p.After-is_allowed_by, row p.After-candidate_of-row) at c.then_some.ensures in
    e ∙ if_allowed c.args.band c.args.column (c.args.place % 20) (omega arith) _ refl
