-- The row letters repeat every twenty rows, at any shift. Assumes nothing.
use mathlib.Core.Path.{◌≡◌, refl, sym, ap, ◌∙◌}
use mathlib.Core.Bool.{Bool, true, false}
use Prim.Native.Nat.{ℕ, ◌+◌, ◌*◌, ◌%◌, ◌≤◌, ◌<◌}
use native.Mathlib.Omega.{arith}
use borrow.Author.Tests.{eqb-true, eqb-false, eq-eqb, ne_eqb}
use lib.Dec.{eqb, lit<}
use lib.IntN.{ℤ, pos, ◌+ℤ◌, ◌-ℤ◌}
use Rattle.whole.specs.Floor.{floor_div, floor_mod}
use Rattle.whole.proofs.Parts.{up, dn, eq_by, add_parts, sub_parts}
use Rattle.whole.proofs.Floor.{floor_mod_lt, mod_parts}
use Rattle.rows.proofs.Direct.{lowest, base, candidate, unshifted}
use Rattle.rows.specs.Letters.{letter_of}
use Rattle.rows.proofs.Near.{Placed}

-- a letter's place is one of twenty
pub letter_lt : (s : ℕ) (r : ℤ) → letter_of s r < 20
unfolding letter_of
letter_lt s r = floor_mod_lt (r +ℤ pos s) (lit< tt)

-- the letter's place and the row, in parts: they differ by the shift and a multiple of twenty
pub record Turns (s : ℕ) (r : ℤ) : Type 0 where
  pub more : ℕ
  pub less : ℕ
  pub is : up r + s + less * 20 ≡ dn r + (more * 20 + letter_of s r)

pub turns : (s : ℕ) (r : ℤ) → Turns s r
unfolding letter_of up dn
turns s r =
    let z = r +ℤ pos s in
    let m = mod_parts z 20 (lit< tt) in
    let a = add_parts r (pos s) in
    record { more = up (floor_div z 20); less = dn (floor_div z 20); is = omega arith }

-- the letter at a shift, from the row's remainder
pub letter_is : (s : ℕ) (r : ℤ) → (floor_mod r 20 + s % 20) % 20 ≡ letter_of s r
letter_is s r =
    let t = turns s r in
    let e = t.is in
    let l = letter_lt s r in
    let m = mod_parts r 20 (lit< tt) in
    let k = floor_mod_lt r {d = 20} (lit< tt) in
    omega arith

-- two rows less than twenty apart with one letter are one row
pub same_row : (s : ℕ) (q r : ℤ) → up q + dn r < dn q + up r + 20 → up r + dn q < dn r + up q + 20 → letter_of s q ≡ letter_of s r → q ≡ r
same_row s q r h k e =
    let t = turns s q in
    let a = t.is in
    let u = turns s r in
    let b = u.is in
    eq_by q r (omega arith)

-- the same letter, as an odd zone counts it: turned back by the shift, and no two letters alike
pub turned_back : (s : ℕ) (r : ℤ) → letter_of 0 r ≡ unshifted s (letter_of s r)
unfolding unshifted
turned_back s r =
    let t = turns s r in
    let a = t.is in
    let u = turns 0 r in
    let b = u.is in
    let h = letter_lt s r in
    let k = letter_lt 0 r in
    omega arith

unshifted_one : (s l m : ℕ) → l < 20 → m < 20 → unshifted s l ≡ unshifted s m → l ≡ m
unfolding unshifted
unshifted_one s l m h k e = omega arith

pub unshift : (s : ℕ) (r : ℤ) (l : ℕ) → letter_of s r ≡ l → letter_of 0 r ≡ unshifted s l
unshift s r l e = turned_back s r ∙ ap (unshifted s) e

pub shift_back : (s : ℕ) (r : ℤ) (l : ℕ) → l < 20 → letter_of 0 r ≡ unshifted s l → letter_of s r ≡ l
shift_back s r l g e = unshifted_one s (letter_of s r) l (letter_lt s r) g (sym (turned_back s r) ∙ e)

-- as a test
by_test : (s : ℕ) (r : ℤ) (l : ℕ) → l < 20 → (t : Bool) → eqb (letter_of 0 r) (unshifted s l) ≡ t → eqb (letter_of s r) l ≡ t
by_test s r l h true e = eq-eqb (letter_of s r) l (shift_back s r l h (eqb-true (letter_of 0 r) (unshifted s l) e))
by_test s r l h false e = ne_eqb (letter_of s r) l (λ q. eqb-false (letter_of 0 r) (unshifted s l) e (unshift s r l q))

pub same_test : (s : ℕ) (r : ℤ) (l : ℕ) → l < 20 → eqb (letter_of s r) l ≡ eqb (letter_of 0 r) (unshifted s l)
same_test s r l h = by_test s r l h (eqb (letter_of 0 r) (unshifted s l)) refl

-- the candidate: its letter, and where it lies
module _ (b : ℤ) (l : ℕ) (h : l < 20) where
  pub record Candidate : Type 0 where
    pub letter : letter_of 0 (candidate b l) ≡ l
    pub from_base : up (lowest b) + dn (candidate b l) ≤ up (candidate b l) + dn (lowest b) + 1
    pub to_base : up (candidate b l) + dn (lowest b) ≤ dn (candidate b l) + up (lowest b) + 18

  pub candidate_is : Candidate
  unfolding candidate up dn
  candidate_is =
      let z = pos l -ℤ base b in
      let a = sub_parts (lowest b) (pos 1) in
      let s = sub_parts (pos l) (base b) in
      let m = mod_parts z 20 (lit< tt) in
      let k = floor_mod_lt z {d = 20} (lit< tt) in
      let e = add_parts (base b) (pos (floor_mod z 20)) in
      let t = turns 0 (candidate b l) in
      let i = t.is in
      let g = letter_lt 0 (candidate b l) in
      record { letter = omega arith; from_base = omega arith; to_base = omega arith }

  -- a row that lies there too and has the letter is the candidate
  pub is_candidate : (r : ℤ) → letter_of 0 r ≡ l → Placed b r → r ≡ candidate b l
  is_candidate r e p =
      let c = candidate_is in
      let f = p.from_base in
      let t = p.to_base in
      let a = c.from_base in
      let d = c.to_base in
      same_row 0 r (candidate b l) (omega arith) (omega arith) (e ∙ sym c.letter)
