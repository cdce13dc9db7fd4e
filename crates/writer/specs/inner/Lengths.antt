-- How long the zone and the band are, before they are written. No public answer speaks of this. Assumes nothing.
use Rattle.std.specs.Prelude.{cond, ℕ, ℤ, pos}
use Rattle.std.specs.Int.Signed.{lt_z}

-- "Length: .. bare 3 and 1"
unfoldable pub head_length : ℤ → ℕ
head_length zone = cond (lt_z zone (pos 1)) 1 3
