-- Corner, centre and side of a square, once over p. Assumes nothing.
use mathlib.Core.Path.{◌≡◌, refl, sym, ap, ◌∙◌, subst}
use mathlib.Core.Bool.{Bool, true, false, cond, ◌&&◌}
use Prim.Native.Nat.{ℕ, zero-le, ◌+◌, ◌-◌, ◌*◌, ◌/◌, ◌^◌, ◌≤◌, ◌<◌}
use native.Mathlib.Nat.{add-mul, mul_assoc, mul_comm, one-mul, mul-lt-mul_of_pos_right, div-eq_of_lt-le, div-lt_iff_lt-mul, le-div_iff_mul-le}
use native.Mathlib.Omega.{arith}
use borrow.Author.Tests.{lt-ltb, le-ltb, le-leb, lt-leb, ltb-true, leb-true, eq-eqb, ne_eqb}
use lib.Dec.{T, ltb, leb, eqb}
use lib.IntN.{ℤ, pos, negsuc, nat_abs}
use lib.Signed.{lt_z}
use Rattle.whole.specs.Powers.{power_of_ten}
use mir.Facts.{and_yes}
use Rattle.whole.proofs.Parts.{up, dn, clash, T_true, eq_by, sub_parts}
use Rattle.whole.proofs.Powers.{ten_is, ten_pos, ten_split, ten_le}
use Rattle.position.specs.inner.Counts.{count_of}
use Rattle.position.specs.Squares.{half_of, side_length, number_of, centre, centre_of, corner_of, holds}

-- half a side, by p
pub half_is : (n : ℕ) → n ≤ 11 → half_of (pos n) ≡ 10 ^ (11 - n)
unfolding half_of
half_is n h = rw (le-ltb 11 n h)

-- the same as the program tests p
pub half_tests : (p : ℤ) → half_of p ≡ cond (lt_z p (pos 0)) 0 (cond (lt_z (pos 11) p) 0 (power_of_ten (11 - nat_abs p)))
unfolding half_of
half_tests (negsuc n) = refl
half_tests (pos n) = rw (le-ltb n 0 zero-le) (ap (cond (ltb 11 n) 0) (sym (ten_is (11 - n) (omega arith))))

-- p is its count of digits, or there is no square
counted_by : (n : ℕ) (t : Bool) → ltb 11 n ≡ t → cond t 12 n ≤ 11 → n ≡ cond t 12 n
counted_by n true e h = absurd (omega arith)
counted_by n false e h = refl

pub counted : (p : ℤ) → count_of p ≤ 11 → p ≡ pos (count_of p)
unfolding count_of
counted (pos n) h = ap pos (counted_by n (ltb 11 n) refl h)
counted (negsuc n) h = absurd (omega arith)

half_by : (n : ℕ) (t : Bool) → ltb 11 n ≡ t → cond t 0 (10 ^ (11 - n)) ≤ 100000000000
half_by n true e = omega arith
half_by n false e = ten_le (11 - n) (omega arith)

pub half_le : (p : ℤ) → half_of p ≤ 100000000000
unfolding half_of
half_le (pos n) = half_by n (ltb 11 n) refl
half_le (negsuc n) = omega arith

-- the centre of what is handed over, where it has one
pub centre_at : (p t d : ℕ) → p ≤ 11 → d < 10 ^ p → centre_of (pos p) t d ≡ centre p (number_of p t d)
unfolding centre_of
centre_at p t d h g = rw (le-ltb 11 p h, lt-leb (10 ^ p) d g)

-- the centre, from the tile and the digits apart
module _ (p t d : ℕ) (h : p ≤ 11) where
  pub centre_split : t * 200000000000 + (2 * d + 1) * 10 ^ (11 - p) ≡ centre p (number_of p t d)
  centre_split =
      let a = 10 ^ p in
      let b = 10 ^ (11 - p) in
      let s = ten_split p h in
      let e1 = add-mul (2 * (t * a + d)) 1 b in
      let e2 = mul_assoc 2 (t * a + d) b in
      let e3 = add-mul (t * a) d b in
      let e4 = mul_assoc t a b ∙ ap (λ (x : ℕ). t * x) s in
      let e5 = add-mul (2 * d) 1 b in
      let e6 = mul_assoc 2 d b in
      omega arith

  -- inside the tile
  pub in_tile : d < 10 ^ p → (2 * d + 1) * 10 ^ (11 - p) < 200000000000
  in_tile g =
      let a = 10 ^ p in
      let b = 10 ^ (11 - p) in
      let s = ten_split p h in
      let e = mul_assoc 2 a b in
      let k : 2 * d + 1 < 2 * a = omega arith in
      let m = mul-lt-mul_of_pos_right k (ten_pos (11 - p)) in
      omega arith

-- what puts the centre that digits name into its tile
pub ruleset centred = (half_is, counted, centre_at, centre_split, in_tile)

-- of the n-th square of p digits along an axis, counted from 0
module _ (p n : ℕ) (h : p ≤ 11) where
  -- its corner is n sides from 0, its centre half a side more
  pub centre_is : centre p n ≡ n * side_length (pos p) + half_of (pos p)
  unfolding side_length
  centre_is =
      let b = 10 ^ (11 - p) in
      let e = add-mul (2 * n) 1 b in
      let f = mul_assoc n 2 b in
      let g = ap (λ (x : ℕ). x * b) (mul_comm 2 n) in
      rw (half_is p h) (omega arith)

  pub corner_is : corner_of (pos p) (pos (centre p n)) ≡ pos (n * side_length (pos p))
  unfolding corner_of up dn
  corner_is =
      let e = centre_is in
      rw (le-ltb (centre p n) (half_of (pos p)) (omega arith))
      (let s = sub_parts (pos (centre p n)) (pos (half_of (pos p))) in eq_by _ _ (omega arith))

  -- the side is not 0, and a tile has 10^p sides
  pub side_pos : 0 < side_length (pos p)
  unfolding side_length
  side_pos = let k = ten_pos (11 - p) in rw (half_is p h) (omega arith)

  pub tile_sides : 10 ^ p * side_length (pos p) ≡ 200000000000
  unfolding side_length
  tile_sides =
      let b = 10 ^ (11 - p) in
      let s = ten_split p h in
      let e = mul_comm 2 b in
      let f = mul_assoc (10 ^ p) b 2 in
      rw (half_is p h, e) (omega arith)

  -- "holds its west and south edges, not the other two": a count is in the square whose number is the count over the side
  holds_when : (x s : ℕ) → 0 < s → x / s ≡ n → (leb (n * s) x && ltb x (n * s + s)) ≡ true
  holds_when x s g e =
      let a = (le-div_iff_mul-le {k = s} {x = n} {y = x} g).0 (omega arith) in
      let b = (div-lt_iff_lt-mul {k = s} {x = x} {y = n + 1} g).0 (omega arith) in
      let d = add-mul n 1 s in
      rw (le-leb (n * s) x a, lt-ltb x (n * s + s) (omega (arith, one-mul s)))

  number_when : (x s : ℕ) → (leb (n * s) x && ltb x (n * s + s)) ≡ true → x / s ≡ n
  number_when x s e =
      let t = and_yes (leb (n * s) x) (ltb x (n * s + s)) (subst T (sym e) tt) in
      let a = leb-true (n * s) x (T_true _ t.0) in
      let b = ltb-true x (n * s + s) (T_true _ t.1) in
      let d = add-mul n 1 s in
      div-eq_of_lt-le s a (omega (arith, one-mul s))

  test_is : (x s : ℕ) → 0 < s → (t : Bool) → (leb (n * s) x && ltb x (n * s + s)) ≡ t → t ≡ eqb (x / s) n
  test_is x s g true e = sym (eq-eqb (x / s) n (number_when x s e))
  test_is x s g false e = sym (ne_eqb (x / s) n (λ q. let k : true ≡ false = sym (holds_when x s g q) ∙ e in clash (cc)))

  pub holds_is : (x : ℕ) → holds (pos p) (pos (centre p n)) (pos x) ≡ eqb (x / side_length (pos p)) n
  unfolding holds
  holds_is x =
      let s = side_length (pos p) in
      rw corner_is (test_is x s side_pos (leb (n * s) x && ltb x (n * s + s)) refl)

  pub holds_none : (x : ℕ) → holds (pos p) (pos (centre p n)) (negsuc x) ≡ false
  unfolding holds
  holds_none x = rw corner_is

-- a bare zone's point is its own corner
pub bare_corner : (k c : ℕ) → corner_of (negsuc k) (pos c) ≡ pos c
unfolding corner_of half_of up dn
bare_corner k c = let s = sub_parts (pos c) (pos 0) in rw (le-ltb c 0 (omega arith)) (eq_by _ _ (omega arith))
