-- Units: document 01, "2,000,000 to the metre, 2 x 10^11 to a tile (100 km)." Assumes nothing.
use Rattle.std.specs.Prelude.{ℕ, ◌*◌, ◌/◌, ℤ, pos, ◌*ℤ◌}

abbrev pub metres : ℕ → ℤ
metres m = pos (m * 2000000)

abbrev pub tiles : ℤ → ℤ
tiles t = t *ℤ pos 200000000000

-- The tile that a count of units lies in.
abbrev pub tile_at : ℕ → ℕ
tile_at x = x / 200000000000
