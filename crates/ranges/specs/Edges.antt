-- The edge rules and the MGRS range test: document 01, "Writing". Assumes nothing.
use Rattle.std.specs.Prelude.{Bool, true, false, cond, Result, Ok, Err, ℤ, pos, ◌+ℤ◌, ◌-ℤ◌}
use Rattle.std.specs.Int.Signed.{lt_z, le_z}
use Rattle.whole.specs.Compare.{same}
use Rattle.ranges.specs.declared.Ends.{Ends}
use Rattle.ranges.specs.declared.Point.{Point}
use Rattle.rules.specs.declared.Refusal.{Refusal}
use Rattle.position.specs.Units.{tiles}
use Rattle.ranges.specs.Ranges.{eastings, northings, verdict}

-- "a value exactly on the upper end is first lowered by one unit."
unfoldable pub lowered : Ends → ℤ → ℤ
lowered ends x = cond (same x ends.high) (x -ℤ pos 1) x

abbrev pub point : Bool → ℤ → ℤ → Point
point north e n = record { north = north; easting = e; northing = n }

-- "Then, UTM only: north below 0 becomes south plus 100 tiles; south at exactly 100 tiles is lowered by one unit and
-- stays south; south above that becomes north minus 100 tiles."
unfoldable pub side_of : Bool → ℤ → ℤ → Point
side_of true e n = cond (lt_z n (pos 0)) (point false e (n +ℤ tiles (pos 100))) (point true e n)
side_of false e n =
    cond (lt_z n (tiles (pos 100))) (point false e n)
    (cond (le_z n (tiles (pos 100))) (point false e (n -ℤ pos 1)) (point true e (n -ℤ tiles (pos 100))))

-- The point after the edge rules.
unfoldable pub edge : Bool → Bool → ℤ → ℤ → Point
edge utm north e n =
    let e' = lowered (eastings utm north) e in
    let n' = lowered (northings utm north) n in
    cond utm (side_of north e' n') (point north e' n')

abbrev pub moved_by : Bool → ℤ → ℤ → Result Bool Refusal → Result Point Refusal
moved_by north e n (Ok utm) = Ok (edge utm north e n)
moved_by north e n (Err r) = Err r

-- "MGRS range test: 14, 16, 17 by the ranges above": "lower end in, upper end by the edge rule", so with no margin and
-- the upper end in, to be lowered.
unfoldable pub mgrs_check : ℤ → Bool → ℤ → ℤ → Result Point Refusal
mgrs_check zone north e n = moved_by north e n (verdict (pos 0) zone north e n)
