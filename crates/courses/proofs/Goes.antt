-- What is listed, and then the listing of what is left, is the listing of the whole, whatever follows: of all lines, and of
-- those alone that LF ends. Assumes nothing.
use mathlib.Core.Path.{◌≡◌, refl, sym, ap, ◌∙◌}
use mathlib.Core.Bool.{Bool, true, false, cond}
use mathlib.Core.List.{List, [], ◌∷◌, ◌++◌, append_assoc}
use Prim.Native.Nat.{ℕ, zero, suc, ◌+◌, ◌-◌, ◌≤◌, ◌<◌, min}
use native.Mathlib.Omega.{arith}
use borrow.Author.Tests.{lt-ltb, ltb-true, ltb-false}
use lib.Dec.{ltb}
use lib.ListN.{length, take, drop, length-append, length-take}
use lib.Seq.{take_all, length-take-le, drop-drop, take-append_seam}
use Rattle.whole.proofs.Parts.{clash}
use Rattle.listing.specs.Listing.{line_of, answer_of}
use Rattle.lines.specs.declared.Run.{Run}
use Rattle.lines.specs.Lines.{lines_of, numbered, ended}
use Rattle.lines.specs.inner.Steps.{top, next_of, number_after, counted, joined, last_of, some, fit, answers_of, taken_of, number_past, left_of, reader_of, pending_of, room_of, step_text, step_size, step_more, rest_of, kept_of, step_buf, step_run}
use Rattle.lines.proofs.Cuts.{free, ended_line, ended_open, Cut, whole, line, cut}
use Rattle.lines.proofs.Parts.{take_least, drop_least}
use Rattle.courses.proofs.Cuts.{free_both, free_take, open_free, lines_line, lines_open, advance, left}
use Rattle.std.specs.Prelude.{Result}
use Rattle.rules.specs.declared.Refusal.{Refusal}
use Rattle.reader.specs.declared.Reading.{Reading}
use Rattle.position.specs.declared.Position.{Position}

pub none_by : (ls : List (List ℕ)) → some ls ≡ false → ls ≡ []
unfolding some
none_by [] e = refl
none_by (l ∷ ls) e = let x : true ≡ false = e in clash (cc)

fit_by : (z : Bool) (m k : ℕ) → m ≤ k → cond z zero (suc m) ≤ suc k
fit_by true m k h = omega arith
fit_by false m k h = omega arith

ended_take : (k : ℕ) (t : List ℕ) → ended t ≡ [] → ended (take k t) ≡ []
ended_take k t e = ended_open (take k t) (free_take k t (open_free t e))

module _ (read : List ℕ → Result (Reading Position) Refusal) where
  -- ---- line by line

  fit_le : (room n : ℕ) (ls : List (List ℕ)) → fit read room n ls ≤ length ls
  unfolding fit
  fit_le room n [] = omega arith
  fit_le room n (l ∷ ls) = fit_by (ltb room (length (line_of read n l))) _ _ (fit_le (room - length (line_of read n l)) (next_of n) ls)

  counted_append : (n : ℕ) (ls ms : List (List ℕ)) → counted read n (ls ++ ms) ≡ counted read n ls ++ counted read (number_after (length ls) n) ms
  unfolding counted number_after
  counted_append n [] ms = refl
  counted_append n (l ∷ ls) ms =
      rw (counted_append (next_of n) ls ms) (sym (append_assoc (line_of read n l) (counted read (next_of n) ls) (counted read (number_after (length ls) (next_of n)) ms)))

  -- all lines that end are listed
  pub all_listed : (room n : ℕ) (p : List ℕ) → left_of read room n (ended p) ≡ false → ended (drop (taken_of read room n (ended p)) p) ≡ []
  unfolding left_of taken_of
  all_listed room n p e = left (fit read room n (ended p)) p ∙ none_by (drop (fit read room n (ended p)) (ended p)) e

  -- ---- of an open line 65 bytes say enough

  long_by : (n : ℕ) (t f : List ℕ) (z : Bool) → ltb 65 (length t) ≡ z → line_of read n (t ++ f) ≡ line_of read n (take 65 t ++ f)
  unfolding line_of answer_of
  long_by n t f true e =
      let h = ltb-true 65 (length t) e in
      let a : 64 < length (t ++ f) = simp length-append (omega arith) in
      let b : 64 < length (take 65 t ++ f) = simp (length-append, length-take) (omega arith) in
      rw (lt-ltb 64 (length (t ++ f)) a, lt-ltb 64 (length (take 65 t ++ f)) b)
  long_by n t f false e = rw (take_all 65 t (ltb-false 65 (length t) e))

  long : (n : ℕ) (t f : List ℕ) → line_of read n (t ++ f) ≡ line_of read n (take 65 t ++ f)
  long n t f = long_by n t f (ltb 65 (length t)) refl

  last_cut : (n k : ℕ) (t f : List ℕ) → line_of read n (t ++ f) ≡ line_of read n (take (suc k) t ++ f) → counted read n (last_of (t ++ f)) ≡ counted read n (last_of (take (suc k) t ++ f))
  unfolding counted last_of
  last_cut n k [] f e = refl
  last_cut n k (b ∷ t) f e = ap (λ (x : List ℕ). x ++ []) e

  -- ---- plain numbers, as long as they fit

  pub plain : (n : ℕ) (ls : List (List ℕ)) → n + length ls ≤ top → counted read n ls ≡ numbered read n ls
  unfolding counted numbered next_of
  plain n [] h = refl
  plain n (l ∷ ls) h = rw (lt-ltb n top (omega arith)) (ap (λ (x : List ℕ). line_of read n l ++ x) (plain (n + 1) ls (omega arith)))

-- ---- two ways to part a text into lines, of which 65 bytes of an open one say enough

pub record Cuttable (lines : List ℕ → List (List ℕ)) : Type 0 where
  pub first : (t s : List ℕ) → free t ≡ true → lines (t ++ (10 ∷ s)) ≡ t ∷ lines s
  pub last : (read : List ℕ → Result (Reading Position) Refusal) (n : ℕ) (t f : List ℕ) → free t ≡ true → free f ≡ true → counted read n (lines (t ++ f)) ≡ counted read n (lines (take 65 t ++ f))

-- all lines
pub all_lines : Cuttable lines_of
all_lines =
    record {
      first = lines_line;
      last = λ read n t f e g.
          rw (lines_open (t ++ f) (free_both t f e g), lines_open (take 65 t ++ f) (free_both (take 65 t) f (free_take 65 t e) g))
          (last_cut read n 64 t f (long read n t f));
    }

-- those that LF ends
pub ended_lines : Cuttable ended
ended_lines =
    record {
      first = ended_line;
      last = λ read n t f e g. rw (ended_open (t ++ f) (free_both t f e g), ended_open (take 65 t ++ f) (free_both (take 65 t) f (free_take 65 t e) g));
    }

module _ (read : List ℕ → Result (Reading Position) Refusal) (lines : List ℕ → List (List ℕ)) (w : Cuttable lines) where
  pub goes : (room n : ℕ) (p f : List ℕ)
      → counted read n (lines (p ++ f)) ≡ answers_of read room n (ended p) ++ counted read (number_past read room n (ended p)) (lines (drop (taken_of read room n (ended p)) p ++ f))
  unfolding answers_of number_past taken_of
  goes room n p f =
      let k : ℕ = fit read room n (ended p) in
      let ls : List (List ℕ) = take k (ended p) in
      let ms : List (List ℕ) = lines (drop (length (joined ls)) p ++ f) in
      let e : length ls ≡ k = length-take-le k (ended p) (fit_le read room n (ended p)) in
      ap (counted read n) (advance lines w.first k p f) ∙ counted_append read n ls ms ∙ ap (λ (m : ℕ). counted read n ls ++ counted read (number_after m n) ms) e

  cut_by : (n : ℕ) (t f : List ℕ) → free t ≡ true → Cut f → counted read n (lines (t ++ f)) ≡ counted read n (lines (take 65 t ++ f))
  unfolding counted
  cut_by n t f e (whole g) = w.last read n t f e g
  cut_by n t f e (line u v g q) =
      rw (
        q,
        ← append_assoc t u (10 ∷ v),
        ← append_assoc (take 65 t) u (10 ∷ v),
        w.first (t ++ u) v (free_both t u e g),
        w.first (take 65 t ++ u) v (free_both (take 65 t) u (free_take 65 t e) g),
      )
      (rw (long read n t u))

  pub cut_off : (n : ℕ) (t f : List ℕ) → ended t ≡ [] → counted read n (lines (t ++ f)) ≡ counted read n (lines (take 65 t ++ f))
  cut_off n t f e = cut_by n t f (open_free t e) (cut f)

-- ---- a step

module _ (buf out : List ℕ) (run : Run) where
  pub stays : step_more buf out run ≡ true → pending_of (step_buf buf out run) (step_run buf out run) ≡ rest_of buf out run
  unfolding pending_of step_buf step_run rest_of
  stays e =
      let s : List ℕ = take run.end buf in
      let m : ℕ = step_size buf out run in
      let x : take (length s) buf ≡ s = rw (length-take run.end buf) (take_least run.end buf) in
      rw (e, x) (sym (drop-drop m (min run.from (length s)) s) ∙ ap (drop m) (drop_least run.from s))

  pub kept : step_more buf out run ≡ false → pending_of (step_buf buf out run) (step_run buf out run) ≡ kept_of buf out run
  unfolding pending_of step_buf step_run
  kept e = rw e (take-append_seam (kept_of buf out run) (drop (length (kept_of buf out run)) buf))

  rest_open : step_more buf out run ≡ false → ended (rest_of buf out run) ≡ []
  unfolding step_more rest_of step_size
  rest_open e = all_listed (reader_of run) (room_of out run) run.number (pending_of buf run) e

  pub step_open : step_more buf out run ≡ false → ended (pending_of (step_buf buf out run) (step_run buf out run)) ≡ []
  unfolding kept_of
  step_open e = rw (kept e) (ended_take 65 (rest_of buf out run) (rest_open e))

  module _ (lines : List ℕ → List (List ℕ)) (w : Cuttable lines) where
    step_by : (z : Bool) → step_more buf out run ≡ z → (m : ℕ) (f : List ℕ)
        → counted (reader_of run) m (lines (rest_of buf out run ++ f)) ≡ counted (reader_of run) m (lines (pending_of (step_buf buf out run) (step_run buf out run) ++ f))
    unfolding kept_of
    step_by true e m f = rw (stays e)
    step_by false e m f = rw (kept e) (cut_off (reader_of run) lines w m (rest_of buf out run) f (rest_open e))

    step_at : (f : List ℕ)
        → counted (reader_of run) run.number (lines (pending_of buf run ++ f)) ≡ step_text buf out run ++ counted (reader_of run) (step_run buf out run).number (lines (rest_of buf out run ++ f))
    unfolding step_text rest_of step_size step_run
    step_at f = goes (reader_of run) lines w (room_of out run) run.number (pending_of buf run) f

    pub step_goes : (f : List ℕ) → counted (reader_of run) run.number (lines (pending_of buf run ++ f))
        ≡ step_text buf out run ++ counted (reader_of run) (step_run buf out run).number (lines (pending_of (step_buf buf out run) (step_run buf out run) ++ f))
    step_goes f = step_at f ∙ ap (λ (x : List ℕ). step_text buf out run ++ x) (step_by (step_more buf out run) refl (step_run buf out run).number f)
