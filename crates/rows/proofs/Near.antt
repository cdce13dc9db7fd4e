-- Where the allowed rows lie: among the twenty from one below the lowest, in -90 to 94, on the band's side of the equator.
-- What concerns the limits is computed once over the ten pairs and their mirrors. Assumes nothing.
use mathlib.Core.Path.{◌≡◌, refl, sym, subst}
use mathlib.Core.Bool.{Bool, true, false, ◌&&◌, ◌||◌}
use mathlib.Core.Logic.{⊎_elim}
use Prim.Native.Nat.{ℕ, ◌+◌, ◌≤◌}
use native.Mathlib.Omega.{arith}
use lib.Dec.{T, eqb, leb, ltb, eqb→eq}
use borrow.Author.Tests.{ne_eqb, ltb-true, ltb-false}
use lib.IntN.{ℤ, pos, negsuc, nat_abs, ◌+ℤ◌}
use lib.ListN.{get_or, get_or-eq_default}
use lib.Signed.{le_z}
use mir.Facts.{and_yes, or_yes}
use Rattle.whole.proofs.Parts.{up, dn, le_of, add_parts}
use Rattle.whole.proofs.Small.{Small, computed}
use Rattle.whole.proofs.Table.{all, each}
use Rattle.rows.specs.declared.Limits.{Limits}
use Rattle.rows.specs.Limits.{limits_of, northern, no_rows}
use Rattle.rows.proofs.Direct.{lowest, highest}
use Rattle.rows.specs.Allowed.{between, same_sign, folded_case, folded, fold_column, allowed}

-- past the tenth band there are no limits
pub past : (b : ℕ) → 10 ≤ b → (limits_of (pos b) ≡ no_rows) × (limits_of (negsuc b) ≡ no_rows)
unfolding limits_of
past b h =
    let e : get_or northern b no_rows ≡ no_rows = get_or-eq_default northern no_rows h in
    (e, rw (ne_eqb b 9 (λ q. omega arith), e))

-- a test that the ten pairs, their mirrors and no pair pass
by_band : (f : Limits → Bool) (g : ℕ → ℤ) (b : ℕ) (t : Bool) → ltb b 10 ≡ t → T (all 10 (λ n. f (limits_of (g n)))) → T (f no_rows) → (10 ≤ b → limits_of (g b) ≡ no_rows) → T (f (limits_of (g b)))
by_band f g b true e h u d = each 10 (λ n. f (limits_of (g n))) h b (ltb-true b 10 e)
by_band f g b false e h u d = rw (d (ltb-false b 10 e)) u

for_all : (f : Limits → Bool) → T (all 10 (λ n. f (limits_of (pos n)))) → T (all 10 (λ n. f (limits_of (negsuc n)))) → T (f no_rows) → (b : ℤ) → T (f (limits_of b))
for_all f n m u (pos b) = by_band f pos b (ltb b 10) refl n u (λ h. (past b h).0)
for_all f n m u (negsuc b) = by_band f negsuc b (ltb b 10) refl m u (λ h. (past b h).1)

-- the limits are small, and not far apart
abbrev ranged : Limits → Bool
ranged l = leb (nat_abs l.low) 90 && (leb (nat_abs l.high) 94 && le_z l.high (l.low +ℤ pos 18))

pub record Ranged (b : ℤ) : Type 0 where
  pub low : Small 90 (lowest b)
  pub high : Small 94 (highest b)
  pub gap : up (highest b) + dn (lowest b) ≤ dn (highest b) + up (lowest b) + 18

pub limits_ranged : (b : ℤ) → Ranged b
unfolding up dn limits_of
limits_ranged b =
    let s = and_yes (leb (nat_abs (lowest b)) 90) _ (for_all ranged tt tt tt b) in
    let q = and_yes (leb (nat_abs (highest b)) 94) (le_z (highest b) (lowest b +ℤ pos 18)) s.1 in
    let e = add_parts (lowest b) (pos 18) in
    let g = le_of (highest b) (lowest b +ℤ pos 18) q.1 in
    record { low = computed 90 (lowest b) s.0; high = computed 94 (highest b) q.0; gap = omega arith }

-- the band's side of the equator
northward : (b : ℕ) → T (le_z (pos 0) (lowest (pos b)))
unfolding limits_of
northward b = by_band (λ l. le_z (pos 0) l.low) pos b (ltb b 10) refl tt tt (λ h. (past b h).0)

southward : (b : ℕ) → T (le_z (highest (negsuc b)) (negsuc 0))
unfolding limits_of
southward b = by_band (λ l. le_z l.high (negsuc 0)) negsuc b (ltb b 10) refl tt tt (λ h. (past b h).1)

-- what is known of an allowed row
pub record Placed (b r : ℤ) : Type 0 where
  pub from_base : up (lowest b) + dn r ≤ up r + dn (lowest b) + 1
  pub to_base : up r + dn (lowest b) ≤ dn r + up (lowest b) + 18
  pub least : dn r ≤ up r + 90
  pub most : up r ≤ dn r + 94
  pub sign : same_sign b r ≡ true

by_sign : (b r : ℤ) → T (le_z (lowest b) r) → T (le_z r (highest b)) → same_sign b r ≡ true
unfolding up dn
by_sign (pos b) (pos r) h k = refl
by_sign (pos b) (negsuc r) h k =
    absurd (omega (arith, le_of (pos 0) (lowest (pos b)) (northward b), le_of (lowest (pos b)) (negsuc r) h))
by_sign (negsuc b) (pos r) h k =
    absurd (omega (arith, le_of (highest (negsuc b)) (negsuc 0) (southward b), le_of (pos r) (highest (negsuc b)) k))
by_sign (negsuc b) (negsuc r) h k = refl

within_placed : (b r : ℤ) → T (between (limits_of b) r) → Placed b r
within_placed b r t =
    let s = and_yes (le_z (lowest b) r) (le_z r (highest b)) t in
    let h = le_of (lowest b) r s.0 in
    let k = le_of r (highest b) s.1 in
    let q = limits_ranged b in
    let g = q.gap in
    let x = q.low.least in
    let y = q.high.most in
    record { from_base = omega arith; to_base = omega arith; least = omega arith; most = omega arith; sign = by_sign b r s.0 s.1 }

-- the four folded cases, on either side, computed
abbrev near : ℤ → ℤ → Bool
near b r = le_z (lowest b) (r +ℤ pos 1) && (le_z r (lowest b +ℤ pos 18) && (le_z (negsuc 89) r && le_z r (pos 94)))

abbrev both : ℕ → ℕ → Bool
both r b = near (pos b) (pos r) && near (negsuc b) (negsuc r)

at_pair : (r b m n : ℕ) (t : Bool) → T (eqb r m && eqb b n && t) → T (both m n) → T (both r b)
at_pair r b m n t h k =
    let s = and_yes (eqb r m && eqb b n) t h in
    let q = and_yes (eqb r m) (eqb b n) s.0 in
    rw (eqb→eq r m q.0, eqb→eq b n q.1) k

any_of : {X : Type 0} (p q u v : Bool) → T (p || q || u || v) → (T p → X) → (T q → X) → (T u → X) → (T v → X) → X
any_of p q u v t f g h k = ⊎_elim (λ (t : T (p || q || u)). ⊎_elim (λ (t : T (p || q)). ⊎_elim f g (or_yes p q t)) h (or_yes (p || q) u t)) k (or_yes (p || q || u) v t)

case_both : (r b c : ℕ) → T (folded_case r b c) → T (both r b)
unfolding limits_of
case_both r b c t =
    any_of (eqb r 70 && eqb b 8 && leb 2 c) (eqb r 71 && eqb b 7 && leb c 2) (eqb r 79 && eqb b 9 && leb 1 c) (eqb r 80 && eqb b 8 && leb c 1) t
    (λ h. at_pair r b 70 8 (leb 2 c) h tt)
    (λ h. at_pair r b 71 7 (leb c 2) h tt)
    (λ h. at_pair r b 79 9 (leb 1 c) h tt)
    (λ h. at_pair r b 80 8 (leb c 1) h tt)

near_placed : (b r : ℤ) → T (near b r) → same_sign b r ≡ true → Placed b r
unfolding up dn
near_placed b r t g =
    let s = and_yes (le_z (lowest b) (r +ℤ pos 1)) _ t in
    let q = and_yes (le_z r (lowest b +ℤ pos 18)) _ s.1 in
    let w = and_yes (le_z (negsuc 89) r) (le_z r (pos 94)) q.1 in
    let a = le_of (lowest b) (r +ℤ pos 1) s.0 in
    let e = add_parts r (pos 1) in
    let d = le_of r (lowest b +ℤ pos 18) q.0 in
    let f = add_parts (lowest b) (pos 18) in
    let h = le_of (negsuc 89) r w.0 in
    let k = le_of r (pos 94) w.1 in
    record { from_base = omega arith; to_base = omega arith; least = omega arith; most = omega arith; sign = g }

folded_placed : (b : ℤ) (c : ℕ) (r : ℤ) → T (folded b c r) → Placed b r
folded_placed (pos b) c (pos r) t = near_placed (pos b) (pos r) (and_yes (near (pos b) (pos r)) _ (case_both r b (fold_column c) t)).0 refl
folded_placed (pos b) c (negsuc r) t = absurd t
folded_placed (negsuc b) c (pos r) t = absurd t
folded_placed (negsuc b) c (negsuc r) t = near_placed (negsuc b) (negsuc r) (and_yes (near (pos b) (pos r)) _ (case_both r b (fold_column c) t)).1 refl

pub allowed_placed : (b : ℤ) (c : ℕ) (r : ℤ) → allowed b c r ≡ true → Placed b r
unfolding allowed
allowed_placed b c r e =
    let t = and_yes (leb c 7) (between (limits_of b) r || folded b c r) (subst T (sym e) tt) in
    ⊎_elim (within_placed b r) (folded_placed b c r) (or_yes (between (limits_of b) r) (folded b c r) t.1)
