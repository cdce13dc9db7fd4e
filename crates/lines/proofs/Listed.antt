-- The loop over the lines that end in the bytes that wait: what is listed so far, with the answer of the rest, is the answer of the
-- whole. Assumes nothing.
use mathlib.Core.Path.{◌≡◌, sym, ap, ◌∙◌}
use mathlib.Core.Bool.{Bool, true, false}
use mathlib.Core.List.{List, [], ◌∷◌, ◌++◌}
use Prim.Native.Nat.{ℕ, ◌+◌, ◌-◌, ◌<◌, min}
use native.Mathlib.Nat.{add-zero}
use native.Mathlib.Omega.{arith}
use lib.ListN.{length, take, drop, length-append, length-take, length-drop}
use lib.Seq.{drop-drop}
use Rattle.std.specs.Prelude.{Some, None, Result}
use Rattle.listing.specs.Listing.{line_of}
use Rattle.memchr.specs.Find.{IsFirstByte, is_byte}
use Rattle.lines.specs.declared.Run.{Run}
use Rattle.lines.specs.Lines.{ended}
use Rattle.lines.specs.inner.Feeds.{index_of}
use Rattle.lines.specs.inner.Steps.{next_of, answers_of, taken_of, number_past, left_of, wrote, PutAt, Within, reader_of, moved_run, pending_of, room_of, step_text, step_size, step_more, step_out, listed_run}
use Rattle.lines.proofs.Cuts.{first_line, no_line}
use Rattle.lines.proofs.Feeds.{first_is, none_is}
use Rattle.lines.proofs.Parts.{part, take_min}
use Rattle.lines.proofs.Steps.{wrote_none, wrote_both, length_wrote, text_room, size_room, number_room, more_room, text_full, size_full, number_full, more_full, text_none, size_none, number_none, more_none}
use Rattle.rules.specs.declared.Refusal.{Refusal}
use Rattle.reader.specs.declared.Reading.{Reading}
use Rattle.position.specs.declared.Position.{Position}

pub record Going (buf out₀ : List ℕ) (run₀ : Run) (out : List ℕ) (run : Run) : Type 0 where
  pub same : length out ≡ length out₀
  pub inside : Within buf out run
  pub run_is : listed_run buf out run ≡ listed_run buf out₀ run₀
  pub out_is : step_out buf out run ≡ step_out buf out₀ run₀

moved_same : (run : Run) (n n' f f' e u u' : ℕ) (m m' : Bool) → n ≡ n' → f ≡ f' → u ≡ u' → m ≡ m' → moved_run run n f e u m ≡ moved_run run n' f' e u' m'
moved_same run n n' f f' e u u' m m' a b c d = rw (a, b, c, d)

module _ (buf out : List ℕ) (run : Run) where
  -- what the search looks through
  pub looked_is : take (run.end - run.from) (drop run.from buf) ≡ pending_of buf run
  unfolding pending_of
  looked_is = sym (part run.from run.end buf)

  -- no line is listed any more: none ends there, or there is no room
  pub stays : (m : Bool) → answers_of (reader_of run) (room_of out run) run.number (ended (pending_of buf run)) ≡ []
      → taken_of (reader_of run) (room_of out run) run.number (ended (pending_of buf run)) ≡ 0
      → number_past (reader_of run) (room_of out run) run.number (ended (pending_of buf run)) ≡ run.number
      → left_of (reader_of run) (room_of out run) run.number (ended (pending_of buf run)) ≡ m
      → (record run { more = m } ≡ listed_run buf out run) × (out ≡ step_out buf out run)
  unfolding listed_run step_size step_text step_more step_out
  stays m t s n l = (rw (t, s, n, l) (rw (add-zero run.from, add-zero run.used)), rw t (sym (wrote_none out run.used)))

  pub no_more : IsFirstByte (is_byte 10) (take (run.end - run.from) (drop run.from buf)) None → (record run { more = false } ≡ listed_run buf out run) × (out ≡ step_out buf out run)
  no_more f =
      let r : List ℕ → Result (Reading Position) Refusal = reader_of run in
      let p : List ℕ = pending_of buf run in
      let g : index_of 10 p ≡ length p = none_is 10 p (rw looked_is at f) in
      let e : ended p ≡ [] = no_line p (omega arith) in
      stays false (rw e (text_none r (room_of out run) run.number)) (rw e (size_none r (room_of out run) run.number)) (rw e (number_none r (room_of out run) run.number)) (rw e (more_none r (room_of out run) run.number))

  -- a line ends there, before place k
  module _ (k : ℕ) (i : Within buf out run) (f : IsFirstByte (is_byte 10) (take (run.end - run.from) (drop run.from buf)) (Some k)) where
    first : (index_of 10 (pending_of buf run) ≡ k) × (k < length (pending_of buf run))
    first = first_is 10 (pending_of buf run) k (rw looked_is at f)

    pub low : run.from + k < run.end
    low = omega (arith, first.1, ap length looked_is, length-take (run.end - run.from) (drop run.from buf), i.0)

    abbrev pub next : ℕ → ℕ → Run
    next n used = record run { number = n; from = run.from + k + 1; used = used }

    next_lines : (n used : ℕ) → ended (pending_of buf run) ≡ take (run.from + k - run.from) (drop run.from buf) ∷ ended (pending_of buf (next n used))
    unfolding pending_of
    next_lines n used =
        let p : List ℕ = drop run.from (take run.end buf) in
        let j : min k (run.end - run.from) ≡ run.from + k - run.from = omega (arith, low) in
        let d : run.from + (k + 1) ≡ run.from + k + 1 = omega arith in
        let t : take k p ≡ take (run.from + k - run.from) (drop run.from buf) =
        ap (take k) (part run.from run.end buf) ∙ take_min k (run.end - run.from) (drop run.from buf) ∙ ap (λ (n : ℕ). take n (drop run.from buf)) j in
        let l : index_of 10 p < length p = omega (arith, first.0, first.1) in
        first_line p l ∙ rw (first.0, t, drop-drop (k + 1) run.from (take run.end buf), d)

    -- its answer has no room
    pub stopped : (exit : List ℕ) → PutAt (line_of (reader_of run) run.number (take (run.from + k - run.from) (drop run.from buf))) out run.used None exit
        → (record run { more = true } ≡ listed_run buf out run) × (exit ≡ step_out buf out run)
    unfolding room_of
    stopped exit p =
        let r : List ℕ → Result (Reading Position) Refusal = reader_of run in
        let l : List ℕ = take (run.from + k - run.from) (drop run.from buf) in
        let ls : List (List ℕ) = ended (pending_of buf (next 0 0)) in
        let e : ended (pending_of buf run) ≡ l ∷ ls = next_lines 0 0 in
        let x = stays true (rw e (text_full r (room_of out run) run.number l ls p.0)) (rw e (size_full r (room_of out run) run.number l ls p.0)) (rw e (number_full r (room_of out run) run.number l ls p.0)) (rw e (more_full r (room_of out run) run.number l ls p.0)) in
        (x.0, p.1 ∙ x.1)

    -- its answer has room
    module _ (used : ℕ) (exit : List ℕ) (p : PutAt (line_of (reader_of run) run.number (take (run.from + k - run.from) (drop run.from buf))) out run.used (Some used) exit) where
      abbrev line : List ℕ
      line = take (run.from + k - run.from) (drop run.from buf)

      abbrev text : List ℕ
      text = line_of (reader_of run) run.number line

      abbrev then : Run
      then = next (next_of run.number) used

      long : length exit ≡ length out
      long = ap length p.2 ∙ length_wrote out run.used text (omega (arith, p.0, i.2))

      room_left : length out - run.used - length text ≡ length exit - used
      room_left = omega (arith, long, p.1)

      text_is : step_text buf out run ≡ text ++ step_text buf exit then
      unfolding step_text room_of
      text_is =
          rw (next_lines (next_of run.number) used) (text_room (reader_of run) (length out - run.used) run.number line (ended (pending_of buf then)) p.0
          ∙ ap (λ (n : ℕ). text ++ answers_of (reader_of run) n (next_of run.number) (ended (pending_of buf then))) room_left)

      size_is : step_size buf out run ≡ length line + (1 + step_size buf exit then)
      unfolding step_size room_of
      size_is =
          rw (next_lines (next_of run.number) used) (size_room (reader_of run) (length out - run.used) run.number line (ended (pending_of buf then)) p.0
          ∙ ap (λ (n : ℕ). length line + (1 + taken_of (reader_of run) n (next_of run.number) (ended (pending_of buf then)))) room_left)

      number_is : number_past (reader_of run) (room_of out run) run.number (ended (pending_of buf run)) ≡ number_past (reader_of run) (room_of exit then) (next_of run.number) (ended (pending_of buf then))
      unfolding room_of
      number_is =
          rw (next_lines (next_of run.number) used) (number_room (reader_of run) (length out - run.used) run.number line (ended (pending_of buf then)) p.0
          ∙ ap (λ (n : ℕ). number_past (reader_of run) n (next_of run.number) (ended (pending_of buf then))) room_left)

      more_is : step_more buf out run ≡ step_more buf exit then
      unfolding step_more room_of
      more_is =
          rw (next_lines (next_of run.number) used) (more_room (reader_of run) (length out - run.used) run.number line (ended (pending_of buf then)) p.0
          ∙ ap (λ (n : ℕ). left_of (reader_of run) n (next_of run.number) (ended (pending_of buf then))) room_left)

      run_is : listed_run buf exit then ≡ listed_run buf out run
      unfolding listed_run
      run_is =
          let m : length line ≡ k = simp (length-take, length-drop) (omega (arith, low, i.1)) in
          let f : run.from + k + 1 + step_size buf exit then ≡ run.from + step_size buf out run = omega (arith, size_is) in
          let u : used + length (step_text buf exit then) ≡ run.used + length (step_text buf out run) = omega (arith, p.1, ap length text_is, length-append text (step_text buf exit then)) in
          moved_same run _ _ _ _ run.end _ _ _ _ (sym number_is) f u (sym more_is)

      out_is : step_out buf exit then ≡ step_out buf out run
      unfolding step_out
      out_is =
          let rest : List ℕ = step_text buf exit then in
          ap (λ (o : List ℕ). wrote o used rest) p.2 ∙ ap (λ (u : ℕ). wrote (wrote out run.used text) u rest) p.1
          ∙ wrote_both out run.used text rest (omega (arith, p.0, i.2)) ∙ ap (wrote out run.used) (sym text_is)

      pub turned : (out₀ : List ℕ) (run₀ : Run) → Going buf out₀ run₀ out run → Going buf out₀ run₀ exit then
      turned out₀ run₀ g =
          record {
            same = long ∙ g.same;
            inside = (omega (arith, low), i.1, omega (arith, long, p.0, p.1, i.2));
            run_is = run_is ∙ g.run_is;
            out_is = out_is ∙ g.out_is;
          }
