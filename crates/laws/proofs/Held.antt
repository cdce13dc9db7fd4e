-- Every square that is read has its corner half a side below its centre, and holds exactly the units from its corner up to
-- one side more, on both axes, once over p. Assumes nothing.
use mathlib.Core.Path.{◌≡◌, sym, ap, ◌∙◌}
use mathlib.Core.Bool.{true}
use mathlib.Core.List.{List}
use Prim.Native.Nat.{ℕ, ◌+◌, ◌*◌, ◌/◌, ◌%◌, ◌≤◌, ◌<◌}
use native.Mathlib.Nat.{mod-lt, div-add-mod', div-eq_of_lt, add-mul-div_right}
use native.Mathlib.Omega.{arith}
use borrow.Author.Tests.{eq-eqb, eqb-true}
use lib.IntN.{ℤ, pos, negsuc, ◌-ℤ◌}
use Rattle.whole.proofs.Parts.{up, dn, clash, eq_by, sub_parts}
use Rattle.position.specs.declared.Position.{Position}
use Rattle.position.specs.Squares.{half_of, side_length, centre, corner_of, holds}
use Rattle.position.proofs.Squares.{centre_is, corner_is, side_pos, holds_is, holds_none}
use Rattle.reader.specs.Read.{read_of}
use Rattle.laws.specs.Held.{UnitOf, Held}
use Rattle.laws.proofs.Centre.{centred}
use Rattle.std.specs.Prelude.{Ok}
use Rattle.reader.specs.declared.Reading.TheVariants.{Square}

-- the n-th square of p digits along an axis
module _ (p n : ℕ) (few : p ≤ 11) where
  -- less than a side after the corner it holds
  holds_step : (d : ℕ) → d < side_length (pos p) → holds (pos p) (pos (centre p n)) (pos (n * side_length (pos p) + d)) ≡ true
  holds_step d h =
      let s = side_length (pos p) in
      let q = add-mul-div_right d n (side_pos p n few) in
      let z = div-eq_of_lt h in
      let e : (n * s + d) / s ≡ n = ap (λ (x : ℕ). x / s) (omega arith) ∙ q ∙ omega arith in
      holds_is p n few (n * s + d) ∙ eq-eqb ((n * s + d) / s) n e

  -- what it holds is such a unit, and back
  to_unit : (x : ℤ) → holds (pos p) (pos (centre p n)) x ≡ true → UnitOf (pos p) (pos (centre p n)) x
  to_unit (negsuc x) e = let f = holds_none p n few x in clash (cc)
  to_unit (pos x) e =
      let s = side_length (pos p) in
      let q = eqb-true (x / s) n (sym (holds_is p n few x) ∙ e) in
      let d = rw q at (div-add-mod' x s) in
      record { step = x % s; below = mod-lt x (side_pos p n few); is = rw (corner_is p n few) (ap pos (sym d)) }

  from_unit : (x : ℤ) → UnitOf (pos p) (pos (centre p n)) x → holds (pos p) (pos (centre p n)) x ≡ true
  from_unit x u =
      let e : x ≡ pos (n * side_length (pos p) + u.step) = u.is ∙ rw (corner_is p n few) in
      rw e (holds_step u.step u.below)

  -- its corner is the first of them
  corner_unit : UnitOf (pos p) (pos (centre p n)) (corner_of (pos p) (pos (centre p n)))
  corner_unit = record { step = 0; below = side_pos p n few; is = rw (corner_is p n few) (ap pos (omega arith)) }

  -- and its centre one
  half_lt : half_of (pos p) < side_length (pos p)
  unfolding side_length
  half_lt = let h = side_pos p n few in omega arith

  centre_unit : UnitOf (pos p) (pos (centre p n)) (pos (centre p n))
  centre_unit = record { step = half_of (pos p); below = half_lt; is = ap pos (centre_is p n few) ∙ rw (corner_is p n few) }

  -- the four together
  held : Held (pos p) (pos (centre p n))
  unfolding up dn
  held =
      let s = side_length (pos p) in
      let e = centre_is p n few in
      let m = sub_parts (pos (centre p n)) (pos (half_of (pos p))) in
      record {
        corner_is = corner_is p n few ∙ eq_by (pos (n * s)) (pos (centre p n) -ℤ pos (half_of (pos p))) (omega arith);
        centre = from_unit (pos (centre p n)) centre_unit;
        corner = from_unit (corner_of (pos p) (pos (centre p n))) corner_unit;
        units = λ x. (to_unit x, from_unit x);
      }

-- of what is handed over
held_at : (p c : ℤ) (k n : ℕ) → p ≡ pos k → k ≤ 11 → c ≡ pos (centre k n) → Held p c
held_at p c k n e few f = rw (e, f) (held k n few)

-- so on both axes of what is read
pub square_held : (s : List ℕ) (q : Position) → read_of s ≡ Ok (Square q) → Held q.p q.easting × Held q.p q.northing
square_held s q e =
    let c = centred s q e in
    (held_at q.p q.easting c.p _ c.precision c.few c.easting, held_at q.p q.northing c.p _ c.precision c.few c.northing)
