-- What one line more does to what is listed, and what a buffer holds after one text more. Assumes nothing.
use mathlib.Core.Path.{◌≡◌, refl, sym, ap, ◌∙◌}
use mathlib.Core.Bool.{Bool, true, false, cond}
use mathlib.Core.List.{List, [], ◌∷◌, ◌++◌, append_assoc, append-nil}
use Prim.Native.Nat.{ℕ, zero, suc, ◌+◌, ◌-◌, ◌^◌, ◌≤◌, ◌<◌, min}
use native.Mathlib.Nat.{add-zero}
use native.Mathlib.Omega.{arith}
use borrow.Author.Tests.{lt-ltb, le-ltb, ltb-true}
use lib.Dec.{ltb}
use lib.ListN.{length, take, drop, length-append, length-take, length-drop, take-append-drop, drop_of_length-le}
use lib.Seq.{take_all, take_at, drop_at, drop-drop, length-take-le}
use Rattle.std.specs.Prelude.{Some, None, Result, Ok, Err}
use Rattle.std.proofs.Common.{inl, inr}
use Rattle.std.proofs.lemmas.Bool.{cases_lt}
use Rattle.listing.specs.Listing.{line_of}
use Rattle.whole.proofs.Parts.{clash}
use Rattle.writer.specs.Write.{fit_of, leaves_of}
use Rattle.writer.proofs.Fit.{fitted, held, untouched}
use Rattle.lines.specs.inner.Steps.{next_of, number_after, counted, joined, some, fit, answers_of, taken_of, number_past, left_of, wrote, top, PutAt}
use Rattle.rules.specs.declared.Refusal.{Refusal}
use Rattle.rules.specs.declared.Refusal.TheVariants.{ShortOutput}
use Rattle.reader.specs.declared.Reading.{Reading}
use Rattle.position.specs.declared.Position.{Position}

-- ---- buffers

pub wrote_none : (out : List ℕ) (at : ℕ) → wrote out at [] ≡ out
unfolding wrote
wrote_none out at = rw (add-zero at) (take-append-drop at out)

pub wrote_both : (out : List ℕ) (at : ℕ) (t u : List ℕ) → at + length t ≤ length out → wrote (wrote out at t) (at + length t) u ≡ wrote out at (t ++ u)
unfolding wrote
wrote_both out at t u h =
    let d : List ℕ = drop (at + length t) out in
    let p : List ℕ = take at out ++ t in
    let n : length p ≡ at + length t = length-append (take at out) t ∙ ap (λ (k : ℕ). k + length t) (length-take-le at out (omega arith)) in
    let e : take at out ++ (t ++ d) ≡ p ++ d = sym (append_assoc (take at out) t d) in
    let z : at + length t + length u ≡ at + length (t ++ u) = simp length-append (omega arith) in
    let x : take (at + length t) (p ++ d) ≡ p = take_at p d (at + length t) n in
    let y : drop (at + length t + length u) (p ++ d) ≡ drop (at + length (t ++ u)) out =
    sym (drop-drop (length u) (at + length t) (p ++ d)) ∙ ap (drop (length u)) (drop_at p d (at + length t) n)
    ∙ drop-drop (length u) (at + length t) out ∙ ap (λ (k : ℕ). drop k out) z in
    rw (e, x, y) (simp append_assoc)

pub length_wrote : (out : List ℕ) (at : ℕ) (t : List ℕ) → at + length t ≤ length out → length (wrote out at t) ≡ length out
unfolding wrote
length_wrote out at t h = simp (length-append, length-take, length-drop) (omega arith)

-- a text that is refused has no room
refused_by : (t : List ℕ) (m : ℕ) (k : Refusal) (short : Bool) → ltb m (length t) ≡ short → cond short (Err ShortOutput) (Ok (length t)) ≡ Err k → m < length t
refused_by t m k true e x = ltb-true m (length t) e
refused_by t m k false e x = clash (cc)

refused : (t : List ℕ) (m : ℕ) (k : Refusal) → fit_of t m ≡ Err k → m < length t
unfolding fit_of
refused t m k x = refused_by t m k (ltb m (length t)) refl x

-- ---- one line's answer at a place, by what `list_line_by` answers and leaves

module _ (t out last : List ℕ) (at : ℕ) (low : at ≤ length out) (is : last ≡ leaves_of t (take (length out - at) (drop at out))) where
  part_length : length (take (length out - at) (drop at out)) ≡ length out - at
  part_length = simp (length-take, length-drop) (omega arith)

  part_all : take (length out - at) (drop at out) ≡ drop at out
  part_all = take_all (length out - at) (drop at out) (simp length-drop (omega arith))

  part_rest : drop (length out - at) (drop at out) ≡ []
  part_rest = let h : length (drop at out) ≤ length out - at = simp length-drop (omega arith) in drop_of_length-le (drop at out) h

  pub put_fits : (k : ℕ) → fit_of t (length (take (length out - at) (drop at out))) ≡ Ok k
      → PutAt t out at (Some (at + k)) (take at out ++ (last ++ drop (length out - at) (drop at out)))
  unfolding wrote
  put_fits k e =
      let f = fitted t _ k e in
      let p = part_length in
      let z : last ≡ t ++ drop (at + length t) out =
      is ∙ ap (leaves_of t) part_all ∙ held t (drop at out) (simp length-drop (omega arith)) ∙ ap (λ (l : List ℕ). t ++ l) (drop-drop (length t) at out) in
      (omega arith, ap (λ (n : ℕ). at + n) f.0, rw (part_rest, z) (rw append-nil))

  pub put_full : (k : Refusal) → fit_of t (length (take (length out - at) (drop at out))) ≡ Err k
      → PutAt t out at None (take at out ++ (last ++ drop (length out - at) (drop at out)))
  put_full k e =
      let p = part_length in
      let h = refused t _ k e in
      let z : last ≡ take (length out - at) (drop at out) = is ∙ untouched t (take (length out - at) (drop at out)) (omega arith) in
      (omega arith, rw (z, take-append-drop (length out - at) (drop at out)) (take-append-drop at out))

-- ---- the next number: the library's sum stays at the top

pub next_is : (n : ℕ) → n < 2 ^ 64 → min (n + 1) top ≡ next_of n
unfolding next_of
next_is n h = elim (cases_lt n top) [
  | inl l ↦ rw (lt-ltb n top l) (omega arith)
  | inr l ↦ rw (le-ltb n top l) (omega arith)
]

-- ---- what one reader answers

module _ (read : List ℕ → Result (Reading Position) Refusal) where
  -- ---- a line that has room

  module _ (room n : ℕ) (l : List ℕ) (ls : List (List ℕ)) (h : length (line_of read n l) ≤ room) where
    fit_room : fit read room n (l ∷ ls) ≡ suc (fit read (room - length (line_of read n l)) (next_of n) ls)
    unfolding fit
    fit_room = rw (le-ltb room (length (line_of read n l)) h)

    pub text_room : answers_of read room n (l ∷ ls) ≡ line_of read n l ++ answers_of read (room - length (line_of read n l)) (next_of n) ls
    unfolding answers_of counted
    text_room = rw fit_room

    pub size_room : taken_of read room n (l ∷ ls) ≡ length l + (1 + taken_of read (room - length (line_of read n l)) (next_of n) ls)
    unfolding taken_of joined
    size_room = rw (fit_room, length-append) (omega arith)

    pub number_room : number_past read room n (l ∷ ls) ≡ number_past read (room - length (line_of read n l)) (next_of n) ls
    unfolding number_past number_after
    number_room = rw fit_room

    pub more_room : left_of read room n (l ∷ ls) ≡ left_of read (room - length (line_of read n l)) (next_of n) ls
    unfolding left_of
    more_room = rw fit_room

  -- ---- a line that has none

  module _ (room n : ℕ) (l : List ℕ) (ls : List (List ℕ)) (h : room < length (line_of read n l)) where
    fit_full : fit read room n (l ∷ ls) ≡ zero
    unfolding fit
    fit_full = rw (lt-ltb room (length (line_of read n l)) h)

    pub text_full : answers_of read room n (l ∷ ls) ≡ []
    unfolding answers_of counted
    text_full = rw fit_full

    pub size_full : taken_of read room n (l ∷ ls) ≡ 0
    unfolding taken_of joined
    size_full = rw fit_full

    pub number_full : number_past read room n (l ∷ ls) ≡ n
    unfolding number_past number_after
    number_full = rw fit_full

    pub more_full : left_of read room n (l ∷ ls) ≡ true
    unfolding left_of some
    more_full = rw fit_full

  -- ---- no line

  module _ (room n : ℕ) where
    pub text_none : answers_of read room n [] ≡ []
    unfolding answers_of counted fit
    text_none = refl

    pub size_none : taken_of read room n [] ≡ 0
    unfolding taken_of joined fit
    size_none = refl

    pub number_none : number_past read room n [] ≡ n
    unfolding number_past number_after fit
    number_none = refl

    pub more_none : left_of read room n [] ≡ false
    unfolding left_of some fit
    more_none = refl
