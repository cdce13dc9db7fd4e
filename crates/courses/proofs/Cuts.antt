-- Lines at the start of a text, whatever follows it. Assumes nothing.
use mathlib.Core.Path.{◌≡◌, refl, sym, ap, ◌∙◌}
use mathlib.Core.Bool.{true}
use mathlib.Core.List.{List, [], ◌∷◌, ◌++◌, append_assoc}
use Prim.Native.Nat.{ℕ, zero, suc, ◌≤◌}
use native.Mathlib.Omega.{arith}
use lib.ListN.{length, take, drop, length-append}
use lib.Seq.{drop-append-add}
use Rattle.whole.proofs.Parts.{clash}
use Rattle.lines.specs.Lines.{glue, lines_of, ended}
use Rattle.lines.specs.inner.Steps.{joined, last_of}
use Rattle.lines.proofs.Cuts.{free, free_cons, Parting, parts_line, ended_line, ended_open, Cut, whole, line, cut}

-- ---- texts with no LF

pub free_both : (t u : List ℕ) → free t ≡ true → free u ≡ true → free (t ++ u) ≡ true
unfolding free
free_both [] u e f = f
free_both (b ∷ t) u e f = let x = free_cons b t e in rw x.0 (free_both t u x.1 f)

pub free_take : (k : ℕ) (t : List ℕ) → free t ≡ true → free (take k t) ≡ true
unfolding free
free_take zero t e = refl
free_take (suc k) [] e = refl
free_take (suc k) (b ∷ t) e = let x = free_cons b t e in rw x.0 (free_take k t x.1)

free_by_ended : (s : List ℕ) → Cut s → ended s ≡ [] → free s ≡ true
free_by_ended s (whole f) e = f
free_by_ended s (line t u f q) e =
    let x : t ∷ ended u ≡ [] = sym (ap ended q ∙ ended_line t u f) ∙ e in
    clash (cc)

-- a text in which no line ends has none
pub open_free : (s : List ℕ) → ended s ≡ [] → free s ≡ true
open_free s e = free_by_ended s (cut s) e

-- ---- the lines of a text that starts with one, and of one that has no LF

glue_fewer : (b : ℕ) (ls : List (List ℕ)) → length (glue b ls) ≤ suc (length ls)
unfolding glue
glue_fewer b [] = omega arith
glue_fewer b (l ∷ ls) = omega arith

pub lines_parts : Parting lines_of glue
unfolding lines_of glue
lines_parts = record { none = refl; byte = λ b s. refl; before = λ b l ls. refl; fewer = glue_fewer }

pub lines_line : (t s : List ℕ) → free t ≡ true → lines_of (t ++ (10 ∷ s)) ≡ t ∷ lines_of s
lines_line = parts_line lines_of glue lines_parts

glue_last : (b : ℕ) (t : List ℕ) → glue b (last_of t) ≡ (b ∷ t) ∷ []
unfolding glue last_of
glue_last b [] = refl
glue_last b (a ∷ t) = refl

pub lines_open : (t : List ℕ) → free t ≡ true → lines_of t ≡ last_of t
unfolding lines_of last_of
lines_open [] e = refl
lines_open (b ∷ t) e = let x = free_cons b t e in rw (x.0, lines_open t x.1) (glue_last b t)

-- ---- k lines at the start, and what follows them

size_line : (t u v : List ℕ) → drop (length (t ++ (10 ∷ v))) (t ++ (10 ∷ u)) ≡ drop (length v) u
size_line t u v = rw (length-append t (10 ∷ v)) (drop-append-add t (10 ∷ u) (suc (length v)))

-- by any way of parting a text that gives a line where one is ended
module _ (lines : List ℕ → List (List ℕ)) (first : (t s : List ℕ) → free t ≡ true → lines (t ++ (10 ∷ s)) ≡ t ∷ lines s) where
  advance_by : (k : ℕ) (p f : List ℕ) → Cut p
      → ((q : List ℕ) → lines (q ++ f) ≡ take k (ended q) ++ lines (drop (length (joined (take k (ended q)))) q ++ f))
      → lines (p ++ f) ≡ take (suc k) (ended p) ++ lines (drop (length (joined (take (suc k) (ended p)))) p ++ f)
  unfolding joined
  advance_by k p f (whole e) ih = rw (ended_open p e)
  advance_by k p f (line t u e q) ih =
      rw (q, ended_line t u e, size_line t u (joined (take k (ended u))), append_assoc t (10 ∷ u) f, first t (u ++ f) e)
      (ap (λ (x : List (List ℕ)). t ∷ x) (ih u))

  pub advance : (k : ℕ) (p f : List ℕ) → lines (p ++ f) ≡ take k (ended p) ++ lines (drop (length (joined (take k (ended p)))) p ++ f)
  unfolding joined
  advance zero p f = refl
  advance (suc k) p f = advance_by k p f (cut p) (λ q. advance k q f)

left_by : (k : ℕ) (p : List ℕ) → Cut p → ((q : List ℕ) → ended (drop (length (joined (take k (ended q)))) q) ≡ drop k (ended q))
    → ended (drop (length (joined (take (suc k) (ended p)))) p) ≡ drop (suc k) (ended p)
unfolding joined
left_by k p (whole e) ih = rw (ended_open p e) (ended_open p e)
left_by k p (line t u e q) ih = rw (q, ended_line t u e, size_line t u (joined (take k (ended u)))) (ih u)

pub left : (k : ℕ) (p : List ℕ) → ended (drop (length (joined (take k (ended p)))) p) ≡ drop k (ended p)
unfolding joined
left zero p = refl
left (suc k) p = left_by k p (cut p) (λ q. left k q)
