-- A text is read as a bare zone exactly if it ends at its band, and then stands at the point of document 01's formulas.
-- Nothing else is supplied: what is read as a square has both coordinates in its text. Assumes nothing.
use mathlib.Core.Path.{◌≡◌, sym, ◌∙◌}
use mathlib.Core.Logic.{◌↔◌}
use mathlib.Core.List.{List}
use Prim.Native.Nat.{ℕ}
use borrow.Author.Tests.{eq-eqb}
use Rattle.whole.proofs.Parts.{clash}
use Rattle.position.specs.declared.Position.{Position}
use Rattle.reader.specs.Read.{tail_of, read_of}
use Rattle.reader.proofs.Stages.{bared}
use Rattle.laws.specs.Bare.{Supplied}
use Rattle.std.specs.Prelude.{Ok}
use Rattle.reader.specs.declared.Reading.TheVariants.{Square, Bare}

module _ (s : List ℕ) (q : Position) where
  to : read_of s ≡ Ok (Bare q) → Supplied s q
  to e =
      let b = bared s q e in
      record { head = b.head; zone_and_band = b.is_head; ends = b.ends; point = b.is }

  from : Supplied s q → read_of s ≡ Ok (Bare q)
  unfolding read_of tail_of
  from b = rw (b.zone_and_band, eq-eqb _ _ b.ends, b.point)

  pub supplied : (read_of s ≡ Ok (Bare q)) ↔ Supplied s q
  supplied = (to, from)

  -- no text is both
  pub never_both : (r : Position) → read_of s ≡ Ok (Bare q) → read_of s ≡ Ok (Square r) → ⊥
  never_both r b a = let k : Ok (Bare q) ≡ Ok (Square r) = sym b ∙ a in clash (cc)
