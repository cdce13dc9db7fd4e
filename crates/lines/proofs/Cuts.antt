-- How a text is cut at its first LF, and which lines that ends. Assumes nothing.
use mathlib.Core.Path.{◌≡◌, refl, sym, ap, ◌∙◌}
use mathlib.Core.Bool.{Bool, true, false, cond}
use mathlib.Core.List.{List, [], ◌∷◌, ◌++◌}
use Prim.Native.Nat.{ℕ, zero, suc, ◌+◌, ◌≤◌, ◌<◌}
use native.Mathlib.Omega.{arith}
use borrow.Author.Tests.{eqb-true}
use lib.Dec.{eqb}
use lib.ListN.{length, take, drop, length-append}
use lib.Seq.{take-append_seam, drop-append-add}
use Rattle.lines.specs.inner.Feeds.{index_of}
use Rattle.whole.proofs.Parts.{clash}
use Rattle.lines.specs.Lines.{onto, ended}
use Rattle.lines.specs.inner.Steps.{joined}

-- no LF stands in a text
unfoldable pub free : List ℕ → Bool
free [] = true
free (b ∷ s) = cond (eqb b 10) false (free s)

free_by : (z : Bool) (s : List ℕ) → cond z false (free s) ≡ true → (z ≡ false) × (free s ≡ true)
free_by true s e = clash (cc)
free_by false s e = (refl, e)

pub free_cons : (b : ℕ) (s : List ℕ) → free (b ∷ s) ≡ true → (eqb b 10 ≡ false) × (free s ≡ true)
unfolding free
free_cons b s e = free_by (eqb b 10) s e

-- ---- what parts a text at each LF, and puts any other byte before the line that follows it

pub record Parting (lines : List ℕ → List (List ℕ)) (join : ℕ → List (List ℕ) → List (List ℕ)) : Type 0 where
  pub none : lines [] ≡ []
  pub byte : (b : ℕ) (s : List ℕ) → lines (b ∷ s) ≡ cond (eqb b 10) ([] ∷ lines s) (join b (lines s))
  pub before : (b : ℕ) (l : List ℕ) (ls : List (List ℕ)) → join b (l ∷ ls) ≡ (b ∷ l) ∷ ls
  pub fewer : (b : ℕ) (ls : List (List ℕ)) → length (join b ls) ≤ suc (length ls)

module _ (lines : List ℕ → List (List ℕ)) (join : ℕ → List (List ℕ) → List (List ℕ)) (w : Parting lines join) where
  -- a text that starts with a line
  pub parts_line : (t s : List ℕ) → free t ≡ true → lines (t ++ (10 ∷ s)) ≡ t ∷ lines s
  parts_line [] s e = w.byte 10 s
  parts_line (b ∷ t) s e = let x = free_cons b t e in rw (w.byte b (t ++ (10 ∷ s)), x.0, parts_line t s x.1) (w.before b t (lines s))

  -- there are no more lines than bytes
  fewer_by : (b : ℕ) (z : Bool) (ls : List (List ℕ)) (k : ℕ) → length ls ≤ k → length (cond z ([] ∷ ls) (join b ls)) ≤ suc k
  fewer_by b true ls k h = omega arith
  fewer_by b false ls k h = omega (arith, w.fewer b ls)

  pub parts_le : (s : List ℕ) → length (lines s) ≤ length s
  parts_le [] = rw w.none (omega arith)
  parts_le (b ∷ s) = rw (w.byte b s) (fewer_by b (eqb b 10) (lines s) (length s) (parts_le s))

-- ---- the lines that LF ends

onto_fewer : (b : ℕ) (ls : List (List ℕ)) → length (onto b ls) ≤ suc (length ls)
unfolding onto
onto_fewer b [] = omega arith
onto_fewer b (l ∷ ls) = omega arith

pub ended_parts : Parting ended onto
unfolding ended onto
ended_parts = record { none = refl; byte = λ b s. refl; before = λ b l ls. refl; fewer = onto_fewer }

pub ended_line : (t s : List ℕ) → free t ≡ true → ended (t ++ (10 ∷ s)) ≡ t ∷ ended s
ended_line = parts_line ended onto ended_parts

pub ended_open : (t : List ℕ) → free t ≡ true → ended t ≡ []
unfolding ended onto
ended_open [] e = refl
ended_open (b ∷ t) e = let x = free_cons b t e in rw (x.0, ended_open t x.1)

index_line : (t s : List ℕ) → free t ≡ true → index_of 10 (t ++ (10 ∷ s)) ≡ length t
unfolding index_of
index_line [] s e = refl
index_line (b ∷ t) s e = let x = free_cons b t e in rw (x.0, index_line t s x.1)

index_open : (t : List ℕ) → free t ≡ true → index_of 10 t ≡ length t
unfolding index_of
index_open [] e = refl
index_open (b ∷ t) e = let x = free_cons b t e in rw (x.0, index_open t x.1)

-- ---- every text is one or the other

pub data Cut (s : List ℕ) : Type 0 where
  whole : free s ≡ true → Cut s
  line : (t u : List ℕ) → free t ≡ true → s ≡ t ++ (10 ∷ u) → Cut s

cut_by : (b : ℕ) (s : List ℕ) (z : Bool) → eqb b 10 ≡ z → Cut s → Cut (b ∷ s)
unfolding free
cut_by b s true e c = line [] s refl (ap (λ (a : ℕ). a ∷ s) (eqb-true b 10 e))
cut_by b s false e (whole f) = whole (rw e f)
cut_by b s false e (line t u f q) = line (b ∷ t) u (rw e f) (ap (λ (x : List ℕ). b ∷ x) q)

pub cut : (s : List ℕ) → Cut s
unfolding free
cut [] = whole refl
cut (b ∷ s) = cut_by b s (eqb b 10) refl (cut s)

-- ---- by the place of the first LF, as `feed_from` answers it

first_by : (s : List ℕ) → Cut s → index_of 10 s < length s → ended s ≡ take (index_of 10 s) s ∷ ended (drop (index_of 10 s + 1) s)
first_by s (whole f) h = absurd (omega (arith, index_open s f))
first_by s (line t u f q) h =
    rw (q, index_line t u f, ended_line t u f, take-append_seam t (10 ∷ u))
    (ap (λ (x : List ℕ). t ∷ ended x) (sym (drop-append-add t (10 ∷ u) 1)))

pub first_line : (s : List ℕ) → index_of 10 s < length s → ended s ≡ take (index_of 10 s) s ∷ ended (drop (index_of 10 s + 1) s)
first_line s h = first_by s (cut s) h

no_by : (s : List ℕ) → Cut s → length s ≤ index_of 10 s → ended s ≡ []
no_by s (whole f) h = ended_open s f
no_by s (line t u f q) h = absurd (omega (arith, ap (index_of 10) q ∙ index_line t u f, ap length q ∙ length-append t (10 ∷ u)))

pub no_line : (s : List ℕ) → length s ≤ index_of 10 s → ended s ≡ []
no_line s h = no_by s (cut s) h

-- ---- lines that end in a text are no longer than it

size_by : (k : ℕ) (p : List ℕ) → Cut p → ((q : List ℕ) → length (joined (take k (ended q))) ≤ length q) → length (joined (take (suc k) (ended p))) ≤ length p
unfolding joined
size_by k p (whole e) ih = rw (ended_open p e) (omega arith)
size_by k p (line t u e q) ih = rw (q, ended_line t u e) (simp length-append (omega (arith, ih u)))

pub size_within : (k : ℕ) (p : List ℕ) → length (joined (take k (ended p))) ≤ length p
unfolding joined
size_within zero p = omega arith
size_within (suc k) p = size_by k p (cut p) (λ q. size_within k q)
