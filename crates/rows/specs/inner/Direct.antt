-- How the program reaches the row without trying them all. No public answer speaks of this: that it is the row
-- of `resolve` is proved. Assumes nothing.
use Rattle.std.specs.Prelude.{Bool, ◌&&◌, ◌||◌, ℕ, leb, ℤ, pos, ◌+ℤ◌, ◌-ℤ◌}
use Rattle.whole.specs.Floor.{floor_mod}
use Rattle.rows.specs.declared.Limits.{Limits}
use Rattle.rows.specs.Allowed.{between, folded}

-- Limits as the program's table holds them, a byte each.
abbrev pub pair_of : Limits → ℤ × ℤ
pair_of l = (l.low, l.high)

-- The same where the band's limits are at hand.
abbrev pub allowed_by : Limits → ℤ → ℕ → ℤ → Bool
allowed_by l b c r = leb c 7 && (between l r || folded b c r)

-- Every allowed row lies among the twenty from one below the lowest: the one among them with the letter of an odd zone.
abbrev pub candidate_from : ℤ → ℕ → ℤ
candidate_from low l = (low -ℤ pos 1) +ℤ pos (floor_mod (pos l -ℤ (low -ℤ pos 1)) 20)
