-- `reader::full_of` meets its contract, by what the block, the digits and the square ensure.
-- Assumes nothing.
use mathlib.Core.Path.{◌≡◌, ap, sym, ◌∙◌}
use mathlib.Core.List.{List}
use Prim.Native.Nat.{ℕ, ◌-◌, ◌/◌, ◌^◌, ◌≤◌, ◌<◌}
use native.Mathlib.Omega.{arith}
use borrow.Author.Rules.{rules}
use borrow.Author.Tests.{le-ltb}
use lib.IntN.{pos}
use lib.Dec.{lit≤}
use Rattle.whole.proofs.Small.{fits, count}
use lib.ListN.{length, drop, length-drop}
use mir.Syntax.{w64}
use mir.Val.{to_z, of_z}
use mir.Facts.{to_z-of_z, to_z_pos}
use Rattle.head.specs.Head.{letter_in}
use Rattle.block.specs.Block.{block_of}
use Rattle.position.specs.inner.Counts.{count_of}
use Rattle.position.specs.Squares.{half_of}
use Rattle.runs.specs.declared.Digits.{Digits}
use Rattle.runs.specs.Digits.{digits_of}
use Rattle.reader.specs.Read.{full_of}
use Rattle.words.proofs.Laws.{rest}
use Rattle.runs.proofs.Halves.{halved_by}
use Rattle.reader.proofs.full_of.Goals as goal
use Rattle.reader.proofs.full_of.Goals.{After-block_of, After-digits_of, After-half_of-half, In_ok-digits, In_ok-tiles}
use Rattle.std.specs.Prelude.{Ok}

-- the block, of the letters as the text has them
block : (c : After-block_of)
    → c.block_of.result ≡ block_of c.args.zone c.args.band (letter_in c.args.rest.now 0) (letter_in c.args.rest.now 1)
block c =
    rw (to_z-of_z c.ranges.zone, c.capital-column.ensures, c.capital-row.ensures) at c.block_of.ensures

-- its tiles, and the digits after it
tiled : (c : In_ok-tiles)
    → block_of c.args.zone c.args.band (letter_in c.args.rest.now 0) (letter_in c.args.rest.now 1) ≡ Ok c.in_ok-tiles.tiles
tiled c = sym (block (goal.at.In_ok-tiles c).After-block_of) ∙ c.in_ok-tiles.was

digits : (c : After-digits_of)
    → c.digits_of.result ≡ digits_of (drop 2 c.args.rest.now)
digits c =
    rw (rest c.args.rest.now 2) at c.digits_of.ensures

-- half a side, by the length
half : (c : After-half_of-half) → c.half_of-half.result ≡ half_of (pos ((length c.args.rest.now - 2) / 2))
half c =
    let h : (length c.args.rest.now - 2) / 2 < 9223372036854775808 = search rules in
    c.half_of-half.ensures ∙ ap half_of (to_z_pos w64 {n = (length c.args.rest.now - 2) / 2} h)

count_is : (n : ℕ) → n ≤ 11 → count_of (pos n) ≡ n
unfolding count_of
count_is n h = rw (le-ltb 11 n h)

halves : (s : List ℕ) (d : Digits) (half : ℕ) → digits_of (drop 2 s) ≡ Ok d → half ≡ half_of (pos ((length s - 2) / 2))
    → (half ≡ half_of d.p) × (count_of d.p ≤ 11) × (d.easting < 10 ^ count_of d.p) × (d.northing < 10 ^ count_of d.p)
halves s d half e f =
    let h = halved_by (drop 2 s) d e in
    let n : (length s - 2) / 2 ≡ h.n = omega (arith, h.all, length-drop 2 s) in
    rw (h.p, count_is h.n h.few) (rw n at f, h.few, h.east_lt, h.north_lt)

-- what is known where the digits halve
halved : (c : In_ok-digits) → digits_of (drop 2 c.args.rest.now) ≡ Ok c.in_ok-digits.digits
halved c = sym (digits (goal.at.In_ok-digits c).After-digits_of) ∙ c.in_ok-digits.was

known : (c : In_ok-digits) → let d = c.in_ok-digits.digits in
    (c.half_of-half.result ≡ half_of d.p) × (count_of d.p ≤ 11) × (d.easting < 10 ^ count_of d.p) × (d.northing < 10 ^ count_of d.p)
known c = halves c.args.rest.now _ _ (halved c) (half (goal.at.In_ok-digits c).After-half_of-half)

p_back : (c : In_ok-digits) → to_z w64 (of_z w64 c.in_ok-digits.digits.p) ≡ c.in_ok-digits.digits.p
p_back c =
    let h = halved_by (drop 2 c.args.rest.now) _ (halved c) in
    to_z-of_z {w = w64} {z = c.in_ok-digits.digits.p} (rw h.p (fits (count 11 h.n h.few) (lit≤ tt)))

pub square_of-requires : goal.square_of-requires
square_of-requires c = let d = (goal.at.square_of-requires c).In_ok-digits in rw (p_back d) (known d)

pub returns : goal.returns
unfolding full_of
returns c =
    let q = rw (to_z-of_z c.ranges.zone, p_back (goal.at.returns c).In_ok-digits, c.capital-column.ensures, c.capital-row.ensures) at c.square_of.ensures in
    rw (tiled (goal.at.returns c).In_ok-tiles, halved (goal.at.returns c).In_ok-digits, q)
