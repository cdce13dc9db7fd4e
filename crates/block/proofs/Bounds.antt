-- How large tiles and units are, so that sums fit and casts to f64 are exact. Assumes nothing.
use mathlib.Core.Path.{◌≡◌, refl, ap}
use mathlib.Core.Bool.{Bool, true, false, cond}
use Prim.Native.Nat.{ℕ, ◌+◌, ◌-◌, ◌*◌, ◌/◌, ◌<◌}
use native.Mathlib.Omega.{arith}
use borrow.Author.Tests.{ltb-true}
use lib.Dec.{lit<}
use lib.IntN.{ℤ, pos, negsuc, ◌+ℤ◌, ◌-ℤ◌}
use lib.Signed.{lt_z, ◌≤ℤ◌}
use Rattle.whole.proofs.Parts.{up, dn, clash, eq_by, add_parts, ≤ℤ-parts}
use Rattle.whole.specs.Floor.{floor_div}
use Rattle.whole.proofs.Table.{alike}
use Rattle.whole.proofs.Small.{Small, computed, count, sum, difference, quotient}
use Rattle.position.specs.Units.{tiles}
use Rattle.block.specs.Bare.{bare_tile}
use Rattle.block.specs.Block.{tile_of}

-- the tile of a bare zone, with 85 tiles more divided
pub tile_divided : (k : ℕ) → k < 24 → pos ((160 * k + 19) / 18) -ℤ pos 85 ≡ bare_tile k
unfolding bare_tile floor_div
tile_divided k h = alike (λ k. pos ((160 * k + 19) / 18) -ℤ pos 85) bare_tile 24 refl (pos 0) k h

pub bare_small : (k : ℕ) → k < 24 → Small 5351 (bare_tile k)
unfolding bare_tile
bare_small k h = quotient (pos (160 * k) -ℤ pos 1511) (lit< tt) (difference (pos (160 * k)) (pos 1511) (count 3840 (160 * k) (omega arith)) (computed 1511 (pos 1511) tt))

-- and with the hundred of the south
pub sided_small : (k : ℕ) → k < 24 → (north : Bool) → Small 5451 (bare_tile k +ℤ cond north (pos 0) (pos 100))
sided_small k h true = sum (bare_tile k) (pos 0) (bare_small k h) (computed 100 (pos 0) tt)
sided_small k h false = sum (bare_tile k) (pos 100) (bare_small k h) (computed 100 (pos 100) tt)

pub by_side : (north : Bool) (z : ℤ) → tiles (z +ℤ cond north (pos 0) (pos 100)) ≡ cond north (tiles z) (tiles (z +ℤ pos 100))
unfolding up dn
by_side true z = let h = add_parts z (pos 0) in ap tiles (eq_by (z +ℤ pos 0) z (omega arith))
by_side false z = refl

-- a row's tile, south and north
pub south_tile : (r : ℤ) → lt_z r (pos 0) ≡ true → negsuc 89 ≤ℤ r → (r +ℤ pos 100 ≡ pos (tile_of r)) × (tile_of r < 100)
unfolding up dn
south_tile (pos n) t h = absurd (omega (arith, ltb-true n 0 t))
south_tile (negsuc n) t h =
    let k = ≤ℤ-parts (negsuc 89) (negsuc n) h in
    let s = add_parts (negsuc n) (pos 100) in
    (eq_by (negsuc n +ℤ pos 100) (pos (99 - n)) (omega arith), omega arith)

pub north_tile : (r : ℤ) → lt_z r (pos 0) ≡ false → r ≤ℤ pos 94 → (r ≡ pos (tile_of r)) × (tile_of r < 100)
unfolding up dn
north_tile (pos n) t h = let k = ≤ℤ-parts (pos n) (pos 94) h in (refl, omega arith)
north_tile (negsuc n) t h = let f : true ≡ false = t in clash (cc)
