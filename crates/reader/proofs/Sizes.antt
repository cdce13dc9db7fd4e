-- How large the coordinates of what is read are: exact in f64. Assumes nothing.
use mathlib.Core.Path.{◌≡◌}
use mathlib.Core.List.{List}
use Prim.Native.Nat.{ℕ, ◌^◌, ◌≤◌, ◌<◌}
use native.Mathlib.Omega.{arith}
use lib.IntN.{ℤ, pos}
use Rattle.whole.proofs.Small.{count}
use Rattle.position.specs.declared.Position.{Position}
use Rattle.position.specs.Squares.{centre_of}
use Rattle.position.proofs.Squares.{centre_at, centre_split, in_tile}
use Rattle.position.proofs.Exact.{Exactly}
use Rattle.runs.proofs.Halves.{halved_by}
use Rattle.block.proofs.Placed.{low}
use Rattle.block.proofs.Near.{Near, point_near}
use Rattle.reader.specs.Read.{square_of, read_of}
use Rattle.reader.proofs.Stages.{squared, bared}
use Rattle.std.specs.Prelude.{Ok}
use Rattle.reader.specs.declared.Reading.TheVariants.{Square, Bare}

-- of a square: inside its tile
units_lt : (n t d : ℕ) → n ≤ 11 → t < 100 → d < 10 ^ n → centre_of (pos n) t d ≤ 9007199254740991
units_lt n t d h g k =
    let e = centre_at n t d h k in
    let s = centre_split n t d h in
    let i = in_tile n t d h k in
    omega arith

axis : (p : ℤ) (n t d : ℕ) → p ≡ pos n → n ≤ 11 → t < 100 → d < 10 ^ n → Exactly (pos (centre_of p t d))
axis p n t d e h g k = rw e (count 9007199254740991 (centre_of (pos n) t d) (units_lt n t d h g k))

pub square_near : (s : List ℕ) (q : Position) → read_of s ≡ Ok (Square q) → Near q
unfolding square_of
square_near s q e =
    let a = squared s q e in
    let d = halved_by _ _ a.is_digits in
    let t = low _ _ _ _ _ a.is_block in
    rw a.is (record { east = axis _ d.n _ _ d.p d.few t.east d.east_lt; north = axis _ d.n _ _ d.p d.few t.north d.north_lt })

pub bare_near : (s : List ℕ) (q : Position) → read_of s ≡ Ok (Bare q) → Near q
bare_near s q e = let a = bared s q e in rw a.is (point_near _ _)
