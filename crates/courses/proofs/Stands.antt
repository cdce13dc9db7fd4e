-- What every course keeps to: what is written and what waits to be written, with the listing of what waits to be listed, is
-- the listing of what was read, whatever follows it, of all lines and of those alone that LF ends. Assumes nothing.
use mathlib.Core.Path.{◌≡◌, refl, sym, ap, ◌∙◌}
use mathlib.Core.Bool.{Bool, true, false}
use mathlib.Core.List.{List, [], ◌∷◌, ◌++◌, append_assoc, append-nil}
use Prim.Native.Nat.{ℕ, ◌+◌, ◌-◌, ◌≤◌, min}
use native.Mathlib.Omega.{arith}
use native.Mathlib.Nat.{add-zero}
use borrow.Author.Tests.{ltb-true, ltb-false, ne_eqb}
use lib.Dec.{ltb}
use lib.ListN.{length, take, drop, length-append, length-take, length-drop, take-append-drop}
use lib.Seq.{drop-append-le, take-append-add, take-append_seam, take_all, length-take-le, drop-drop}
use Rattle.whole.proofs.Parts.{clash}
use Rattle.listing.specs.declared.Form.{Form}
use Rattle.listing.specs.Listing.{line_of}
use Rattle.lines.specs.declared.Run.{Run}
use Rattle.lines.specs.Lines.{ended}
use Rattle.lines.specs.inner.Steps.{next_of, counted, answers_of, wrote, reader_of, pending_of, waiting_of, room_of, step_text, step_size, step_more, kept_of, step_buf, step_out, step_run, start_run, received_run, written_run}
use Rattle.lines.proofs.Steps.{text_room, text_full, text_none}
use Rattle.lines.proofs.Runs.{size_le}
use Rattle.courses.specs.Courses.{State, at_start, given, stepped, written, Course, begins, reads, steps, writes}
use Rattle.courses.proofs.Goes.{Cuttable, step_goes, step_open}
use Rattle.std.specs.Prelude.{Result}
use Rattle.rules.specs.declared.Refusal.{Refusal}
use Rattle.reader.specs.declared.Reading.{Reading}
use Rattle.position.specs.declared.Position.{Position}

pub record Stands (s : State) : Type 0 where
  pub low : s.run.from ≤ s.run.end
  pub inside : s.run.end ≤ length s.buf
  pub sent : s.run.sent ≤ s.run.used
  pub used : s.run.used ≤ length s.out
  pub short : s.run.more ≡ false → s.run.end ≤ 65
  pub done : s.run.more ≡ false → ended (pending_of s.buf s.run) ≡ []
  pub is : (lines : List ℕ → List (List ℕ)) → Cuttable lines → (f : List ℕ)
      → (s.output ++ waiting_of s.out s.run) ++ counted (reader_of s.run) s.run.number (lines (pending_of s.buf s.run ++ f))
      ≡ counted (reader_of s.run) 1 (lines (s.input ++ f))

begun_stands : (form : Form) (buf out : List ℕ) → Stands (at_start form buf out)
unfolding start_run pending_of waiting_of ended
begun_stands form buf out =
    record {
      low = omega arith;
      inside = omega arith;
      sent = omega arith;
      used = omega arith;
      short = λ e. omega arith;
      done = λ e. refl;
      is = λ lines w f. refl;
    }

-- ---- a text that is put behind what waits waits too

-- the start of what was put at a place
pub took : (out : List ℕ) (at : ℕ) (t : List ℕ) → take (length (take at out) + length t) (wrote out at t) ≡ take at out ++ t
unfolding wrote
took out at t = take-append-add (take at out) (t ++ drop (at + length t) out) (length t) ∙ ap (λ (x : List ℕ). take at out ++ x) (take-append_seam t (drop (at + length t) out))

pub put_within : (out : List ℕ) (u : ℕ) (t : List ℕ) → length t ≤ length out - u → length (take u out) + length t ≤ length (wrote out u t)
unfolding wrote
put_within out u t h = simp (length-append, length-take, length-drop) (omega arith)

pub put_waits : (out : List ℕ) (sent used : ℕ) (t : List ℕ) → sent ≤ used → used ≤ length out
    → drop sent (take (length (take used out) + length t) (wrote out used t)) ≡ drop sent (take used out) ++ t
put_waits out sent used t low h =
    let n : length (take used out) ≡ used = length-take-le used out h in
    ap (drop sent) (took out used t) ∙ drop-append-le sent (take used out) t (omega arith)

-- no more is put than there is room for
text_by : (read : List ℕ → Result (Reading Position) Refusal) (room n : ℕ) (l : List ℕ) (ls : List (List ℕ)) (z : Bool) → ltb room (length (line_of read n l)) ≡ z
    → length (answers_of read (room - length (line_of read n l)) (next_of n) ls) ≤ room - length (line_of read n l) → length (answers_of read room n (l ∷ ls)) ≤ room
text_by read room n l ls true e ih = rw (text_full read room n l ls (ltb-true room (length (line_of read n l)) e)) (omega arith)
text_by read room n l ls false e ih =
    let h = ltb-false room (length (line_of read n l)) e in
    rw (text_room read room n l ls h) (simp length-append (omega arith))

pub text_le : (read : List ℕ → Result (Reading Position) Refusal) (room n : ℕ) (ls : List (List ℕ)) → length (answers_of read room n ls) ≤ room
text_le read room n [] = rw text_none (omega arith)
text_le read room n (l ∷ ls) = text_by read room n l ls (ltb room (length (line_of read n l))) refl (text_le read (room - length (line_of read n l)) (next_of n) ls)

-- ---- what is written no longer waits

module _ (out : List ℕ) (run : Run) (n : ℕ) where
  sent_by : (z : Bool) → ltb n (run.used - run.sent) ≡ z → take n (waiting_of out run) ++ waiting_of out (written_run run n) ≡ waiting_of out run
  unfolding waiting_of written_run
  sent_by true e =
      let w : List ℕ = drop run.sent (take run.used out) in
      rw (e, ← drop-drop n run.sent (take run.used out)) (take-append-drop n w)
  sent_by false e =
      let w : List ℕ = drop run.sent (take run.used out) in
      let h = ltb-false n (run.used - run.sent) e in
      let a : length w ≤ n = simp (length-drop, length-take) (omega arith) in
      rw (e, take_all n w a) (append-nil w)

  pub sent_waits : take n (waiting_of out run) ++ waiting_of out (written_run run n) ≡ waiting_of out run
  sent_waits = sent_by (ltb n (run.used - run.sent)) refl

  bound_by : (z : Bool) → ltb n (run.used - run.sent) ≡ z → run.used ≤ length out → ((written_run run n).sent ≤ (written_run run n).used) × ((written_run run n).used ≤ length out)
  unfolding written_run
  bound_by true e h = let l = ltb-true n (run.used - run.sent) e in rw e (omega arith, h)
  bound_by false e h = rw e (omega arith, omega arith)

  pub sent_bound : run.used ≤ length out → ((written_run run n).sent ≤ (written_run run n).used) × ((written_run run n).used ≤ length out)
  sent_bound h = bound_by (ltb n (run.used - run.sent)) refl h

-- ---- a step

module _ (buf out : List ℕ) (run : Run) where
  low_by : (z : Bool) → step_more buf out run ≡ z → (step_run buf out run).from ≤ (step_run buf out run).end
  unfolding step_run step_size pending_of
  low_by true e =
      rw e (let n = length-drop run.from (take run.end buf) in omega (arith, size_le (reader_of run) (room_of out run) run.number (drop run.from (take run.end buf))))
  low_by false e = rw e (omega arith)

  inside_by : (z : Bool) → step_more buf out run ≡ z → (step_run buf out run).end ≤ length (step_buf buf out run)
  unfolding step_run step_buf
  inside_by true e = rw e (simp length-take (omega arith))
  inside_by false e = rw e (simp length-append (omega arith))

  short_by : (z : Bool) → step_more buf out run ≡ z → (step_run buf out run).more ≡ false → (step_run buf out run).end ≤ 65
  unfolding step_run kept_of
  short_by true e x = clash (let y : true ≡ false = sym e ∙ x in cc)
  short_by false e x = rw e (simp length-take (omega arith))

  more_is : (step_run buf out run).more ≡ step_more buf out run
  unfolding step_run
  more_is = refl

  step_used : (step_run buf out run).used ≤ length (step_out buf out run)
  unfolding step_run step_out step_text room_of
  step_used = put_within out run.used _ (text_le (reader_of run) (length out - run.used) run.number (ended (pending_of buf run)))

  module _ (low : run.sent ≤ run.used) (h : run.used ≤ length out) where
    step_sent : (step_run buf out run).sent ≤ (step_run buf out run).used
    unfolding step_run
    step_sent = let n : length (take run.used out) ≡ run.used = length-take-le run.used out h in omega arith

    step_waits : waiting_of (step_out buf out run) (step_run buf out run) ≡ waiting_of out run ++ step_text buf out run
    unfolding waiting_of step_out step_run
    step_waits = put_waits out run.sent run.used (step_text buf out run) low h

  same_form : reader_of (step_run buf out run) ≡ reader_of run
  unfolding step_run
  same_form = refl

-- ---- each event

module _ (s : State) (h : Stands s) where
  front : length (take s.run.end s.buf) ≡ s.run.end
  front = length-take-le s.run.end s.buf h.inside

  -- a read that brings nothing
  none_stands : (buf : List ℕ) → take s.run.end buf ≡ take s.run.end s.buf → Stands (given s [] buf)
  unfolding received_run pending_of
  none_stands buf e =
      let n = front in
      record {
        low = h.low;
        inside = omega (arith, simp length-take at (ap length e));
        sent = h.sent;
        used = h.used;
        short = h.short;
        done = λ m. rw e (h.done m);
        is = λ lines w f. rw (e, append-nil s.input) (h.is lines w f);
      }

  -- and one that brings a block
  module _ (b buf : List ℕ) (e : take (s.run.end + length b) buf ≡ take s.run.end s.buf ++ b) (some : length b ≡ 0 → ⊥) where
    room : s.run.end + length b ≤ length buf
    room = let n = front in omega (arith, simp (length-append, length-take) at (ap length e), h.inside)

    end_is : min (s.run.end + length b) (length buf) ≡ s.run.end + length b
    end_is = let n = room in omega arith

    run_is : received_run (length buf) s.run (length b)
        ≡ record { form = s.run.form; number = s.run.number; from = s.run.from; end = s.run.end + length b; sent = s.run.sent; used = s.run.used; more = true }
    unfolding received_run
    run_is = rw (ne_eqb (length b) 0 some, end_is)

    some_stands : Stands (given s b buf)
    unfolding pending_of waiting_of
    some_stands =
        let n = front in
        let x : drop s.run.from (take (s.run.end + length b) buf) ≡ drop s.run.from (take s.run.end s.buf) ++ b =
        ap (drop s.run.from) e ∙ drop-append-le s.run.from (take s.run.end s.buf) b (omega (arith, h.low)) in
        rw run_is
        (record {
          low = omega (arith, h.low);
          inside = room;
          sent = h.sent;
          used = h.used;
          short = λ m. clash (cc);
          done = λ m. clash (cc);
          is = λ lines w f. rw (x, append_assoc (drop s.run.from (take s.run.end s.buf)) b f, append_assoc s.input b f) (h.is lines w (b ++ f));
        })

  pub given_stands : (b buf : List ℕ) → take (s.run.end + length b) buf ≡ take s.run.end s.buf ++ b → Stands (given s b buf)
  given_stands [] buf e = none_stands buf (ap (λ (k : ℕ). take k buf) (sym (add-zero s.run.end)) ∙ e ∙ append-nil (take s.run.end s.buf))
  given_stands (a ∷ b) buf e = some_stands (a ∷ b) buf e (λ z. omega arith)

  kept_by : (n : ℕ) → ((written_run s.run n).sent ≤ (written_run s.run n).used) × ((written_run s.run n).used ≤ length s.out)
      → ((lines : List ℕ → List (List ℕ)) → Cuttable lines → (f : List ℕ)
      → ((s.output ++ take n (waiting_of s.out s.run)) ++ waiting_of s.out (written_run s.run n))
      ++ counted (reader_of s.run) s.run.number (lines (pending_of s.buf s.run ++ f))
      ≡ counted (reader_of s.run) 1 (lines (s.input ++ f)))
      → Stands (written s n)
  unfolding written_run pending_of
  kept_by n b is = record { low = h.low; inside = h.inside; sent = b.0; used = b.1; short = h.short; done = h.done; is = is }

  pub written_stands : (n : ℕ) → Stands (written s n)
  written_stands n =
      let w : List ℕ = waiting_of s.out s.run in
      let v : List ℕ = waiting_of s.out (written_run s.run n) in
      let x : (s.output ++ take n w) ++ v ≡ s.output ++ w = append_assoc s.output (take n w) v ∙ ap (λ (y : List ℕ). s.output ++ y) (sent_waits s.out s.run n) in
      let b = sent_bound s.out s.run n h.used in
      kept_by n b (λ lines p f. ap (λ (y : List ℕ). y ++ counted (reader_of s.run) s.run.number (lines (pending_of s.buf s.run ++ f))) x ∙ h.is lines p f)

  pub stepped_stands : Stands (stepped s)
  stepped_stands =
      let buf : List ℕ = s.buf in
      let out : List ℕ = s.out in
      let run : Run = s.run in
      record {
        low = low_by buf out run (step_more buf out run) refl;
        inside = inside_by buf out run (step_more buf out run) refl;
        sent = step_sent buf out run h.sent h.used;
        used = step_used buf out run;
        short = short_by buf out run (step_more buf out run) refl;
        done = λ e. step_open buf out run (sym (more_is buf out run) ∙ e);
        is = λ lines w f.
            rw (
              same_form buf out run,
              step_waits buf out run h.sent h.used,
              ← append_assoc s.output (waiting_of out run) (step_text buf out run),
              append_assoc (s.output ++ waiting_of out run) (step_text buf out run) (counted (reader_of run) (step_run buf out run).number (lines (pending_of (step_buf buf out run) (step_run buf out run) ++ f))),
              ← step_goes buf out run lines w f,
            )
            (h.is lines w f);
      }

pub course_stands : {s : State} → Course s → Stands s
course_stands (begins form buf out) = begun_stands form buf out
course_stands (reads {s} b buf c e) = given_stands s (course_stands c) b buf e
course_stands (steps {s} c) = stepped_stands s (course_stands c)
course_stands (writes {s} n c) = written_stands s (course_stands c) n
