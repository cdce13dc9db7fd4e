-- Squares of p digits an axis: document 01, "Reading bytes". Assumes nothing.
use Rattle.std.specs.Prelude.{Bool, cond, ◌&&◌, ℕ, ◌+◌, ◌-◌, ◌*◌, ◌^◌, leb, ltb, ℤ, pos, negsuc, ◌+ℤ◌, ◌-ℤ◌}
use Rattle.std.specs.Int.Signed.{lt_z, le_z}
use Rattle.position.specs.declared.Position.{Position}

-- "The corner is 10^(11-p) units less" than the centre: half a side. 0 for a bare zone, p = -1, and for p outside 0..11.
unfoldable pub half_of : ℤ → ℕ
half_of (pos p) = cond (ltb 11 p) 0 (10 ^ (11 - p))
half_of (negsuc n) = 0

-- "A square has side 2 x 10^(11-p)"
unfoldable pub side_length : ℤ → ℕ
side_length p = 2 * half_of p

-- "N being the tile followed by its digits"
abbrev pub number_of : ℕ → ℕ → ℕ → ℕ
number_of p tile digits = tile * 10 ^ p + digits

-- "the centre on each axis is (2N+1) x 10^(11-p) units"
abbrev pub centre : ℕ → ℕ → ℕ
centre p n = (2 * n + 1) * 10 ^ (11 - p)

-- The same of p, tile and digits as they are handed over; 0, which is no centre, where p is not 0..11 or the digits are more than p.
unfoldable pub centre_of : ℤ → ℕ → ℕ → ℕ
centre_of (pos p) tile digits = cond (ltb 11 p) 0 (cond (leb (10 ^ p) digits) 0 (centre p (number_of p tile digits)))
centre_of (negsuc n) tile digits = 0

-- "The corner is 10^(11-p) units less." No square lies below 0: a centre less than that from 0 has the corner 0.
unfoldable pub corner_of : ℤ → ℤ → ℤ
corner_of p c = cond (lt_z c (pos (half_of p))) (pos 0) (c -ℤ pos (half_of p))

-- A square "holds its west and south edges, not the other two": whether the one around a centre holds a value on its axis.
unfoldable pub holds : ℤ → ℤ → ℤ → Bool
holds p c x = le_z (corner_of p c) x && lt_z x (corner_of p c +ℤ pos (side_length p))

-- A position at its square's south-west corner; a bare zone at its point.
abbrev pub south_west : Position → Position
south_west q = record {
  zone = q.zone;
  north = q.north;
  band = q.band;
  p = q.p;
  easting = corner_of q.p q.easting;
  northing = corner_of q.p q.northing;
}
