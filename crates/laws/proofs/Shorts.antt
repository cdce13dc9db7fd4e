-- Shortening a square that was read writes its zone and its letters, in capitals, and of its digits on each axis the first
-- q, once over p and q. Assumes nothing.
use mathlib.Core.Path.{◌≡◌}
use mathlib.Core.Bool.{false}
use mathlib.Core.List.{List}
use Prim.Native.Nat.{ℕ, ◌≤◌}
use native.Mathlib.Omega.{arith}
use borrow.Author.Tests.{le-ltb}
use lib.IntN.{pos}
use Rattle.whole.specs.Compare.{outside}
use Rattle.position.specs.declared.Position.{Position}
use Rattle.reader.specs.Read.{read_of}
use Rattle.reader.proofs.Stages.{squared}
use Rattle.squares.specs.Shorten.{corner_written, corner_leaves, short_of, short_leaves}
use Rattle.laws.specs.Squares.{Shortens}
use Rattle.laws.proofs.Corners.{told, short_writes}
use Rattle.std.specs.Prelude.{Ok}
use Rattle.reader.specs.declared.Reading.TheVariants.{Square}

-- q is one of 0..p
short_in : (x : Position) (p q : ℕ) → q ≤ p → x.p ≡ pos p → outside (pos 0) x.p (pos q) ≡ false
unfolding outside
short_in x p q le w = rw (w, le-ltb q 0 (omega arith), le-ltb p q le)

-- a square that is read is shortened to its first q digits
pub shortens : (s : List ℕ) (x : Position) (p q : ℕ) → read_of s ≡ Ok (Square x) → x.p ≡ pos p → q ≤ p → Shortens s p q
unfolding short_of short_leaves corner_written corner_leaves
shortens s x p q e w le =
    let a = squared s x e in
    let h = a.head in
    let t = told s x h p e a.is_head w in
    let v = short_writes s x h p q t a.is_head le in
    let i = short_in x p q le w in
    record {
      head = h;
      zone_and_band = a.is_head;
      answer = λ l g. rw (e, i) (v.answer l g);
      buffer = λ l g. rw (e, i) (v.buffer l g);
    }
