-- What a square that is read contains: "A square has side 2 x 10^(11-p) and holds its west and south edges, not the other
-- two." Assumes nothing.
use Rattle.std.specs.Prelude.{◌≡◌, true, ◌↔◌, ℕ, ◌<◌, ℤ, pos, ◌+ℤ◌, ◌-ℤ◌}
use Rattle.position.specs.Squares.{half_of, side_length, corner_of, holds}

-- A unit of the corner's own side: the corner and at most side - 1 more.
pub record UnitOf (p c x : ℤ) : Type 0 where
  pub step : ℕ
  pub below : step < side_length p
  pub is : x ≡ corner_of p c +ℤ pos step

-- On one axis, of p and a centre: "The corner is 10^(11-p) units less", the square holds both, and exactly these units.
pub record Held (p c : ℤ) : Type 0 where
  pub corner_is : corner_of p c ≡ c -ℤ pos (half_of p)
  pub centre : holds p c c ≡ true
  pub corner : holds p c (corner_of p c) ≡ true
  pub units : (x : ℤ) → (holds p c x ≡ true) ↔ UnitOf p c x
