-- However the blocks come and the pieces go: what is written in the end is the listing of all that was read. Assumes nothing.
use mathlib.Core.Path.{◌≡◌, refl, sym, ap, ◌∙◌}
use mathlib.Core.Bool.{Bool, true, false, cond}
use mathlib.Core.List.{List, [], ◌∷◌, ◌++◌, append_assoc, append-nil}
use Prim.Native.Nat.{ℕ, ◌+◌, ◌-◌, ◌≤◌, ◌<◌}
use native.Mathlib.Omega.{arith}
use lib.ListN.{length, take, drop, length-take, length-drop, take-append-drop, drop_of_length-le}
use lib.Seq.{take-add, length-take-le}
use Rattle.whole.proofs.Parts.{clash}
use Rattle.listing.specs.Listing.{line_of}
use Rattle.listing.proofs.Fit.{line_le}
use Rattle.lines.specs.declared.Run.{Run}
use Rattle.lines.specs.Lines.{lines_of, listing_of, ended, numbered, glue, onto}
use Rattle.lines.specs.inner.Steps.{top, next_of, counted, last_of, fit, answers_of, taken_of, left_of, reader_of, pending_of, waiting_of, room_of, step_size, step_more, step_run, last_text, last_more, last_out, last_run, finish_run, written_run}
use Rattle.lines.proofs.Cuts.{parts_le, ended_parts}
use Rattle.lines.proofs.Steps.{size_room, more_room, more_none}
use Rattle.lines.proofs.Runs.{finish_run_lem, finish_out_lem}
use Rattle.courses.specs.Courses.{State, given, written, finished, Course, reads, Ending, finishes, writes_on}
use Rattle.courses.proofs.Cuts.{open_free, lines_open, lines_parts}
use Rattle.courses.proofs.Goes.{plain, none_by, all_lines, ended_lines}
use Rattle.courses.proofs.Stands.{course_stands, put_waits, sent_waits}
use Rattle.std.specs.Prelude.{Result}
use Rattle.rules.specs.declared.Refusal.{Refusal}
use Rattle.reader.specs.declared.Reading.{Reading}
use Rattle.position.specs.declared.Position.{Position}

-- What a read has to leave: the front of the buffer as it was. The block is what then stands behind it.
pub read_block : {s : State} (buf : List ℕ) (n : ℕ) → Course s → s.run.end + n ≤ length buf → take s.run.end buf ≡ take s.run.end s.buf
    → Course (given s (take n (drop s.run.end buf)) buf)
read_block {s} buf n c h e =
    let b : List ℕ = take n (drop s.run.end buf) in
    let l : length b ≡ n = length-take-le n (drop s.run.end buf) (simp length-drop (omega arith)) in
    reads b buf c (rw l (take-add s.run.end n buf ∙ ap (λ (x : List ℕ). x ++ b) e))

-- ---- the end of the input

all_taken : (k : ℕ) (ls : List (List ℕ)) → drop k ls ≡ [] → take k ls ≡ ls
all_taken k ls e = sym (append-nil (take k ls)) ∙ ap (λ (x : List (List ℕ)). take k ls ++ x) (sym e) ∙ take-append-drop k ls

module _ (buf out : List ℕ) (run : Run) where
  open_by : (z : Bool) → run.more ≡ z → (cond z run (last_run buf out run)).more ≡ false → run.more ≡ false
  open_by true e x = x
  open_by false e x = e

  -- `finish` leaves nothing to list only where no line was left before it
  finish_open : (finish_run buf out run).more ≡ false → run.more ≡ false
  unfolding finish_run
  finish_open x = open_by run.more refl x

  last_goes : ended (pending_of buf run) ≡ [] → (last_run buf out run).more ≡ false → last_text buf out run ≡ counted (reader_of run) run.number (lines_of (pending_of buf run))
  unfolding last_run last_text last_more answers_of left_of
  last_goes e m =
      let p : List ℕ = pending_of buf run in
      let k : ℕ = fit (reader_of run) (room_of out run) run.number (last_of p) in
      rw (lines_open p (open_free p e)) (ap (counted (reader_of run) run.number) (all_taken k (last_of p) (none_by (drop k (last_of p)) m)))

  last_waits : run.sent ≤ run.used → run.used ≤ length out → waiting_of (last_out buf out run) (last_run buf out run) ≡ waiting_of out run ++ last_text buf out run
  unfolding waiting_of last_out last_run
  last_waits low h = put_waits out run.sent run.used (last_text buf out run) low h

  last_form : reader_of (last_run buf out run) ≡ reader_of run
  unfolding last_run
  last_form = refl

-- ---- what every ending keeps to

abbrev Closes : State → Type 0
Closes s = s.output ++ waiting_of s.out s.run ≡ counted (reader_of s.run) 1 (lines_of s.input)

finish_closes : {s : State} → Course s → (finish_run s.buf s.out s.run).more ≡ false → Closes (finished s)
finish_closes {s} c l =
    let buf : List ℕ = s.buf in
    let out : List ℕ = s.out in
    let run : Run = s.run in
    let p : List ℕ = pending_of buf run in
    let h = course_stands c in
    let m : run.more ≡ false = finish_open buf out run l in
    let r : finish_run buf out run ≡ last_run buf out run = finish_run_lem buf out run m in
    let t : last_text buf out run ≡ counted (reader_of run) run.number (lines_of p) = last_goes buf out run (h.done m) (sym (ap (λ (x : Run). x.more) r) ∙ l) in
    let x : (s.output ++ waiting_of out run) ++ counted (reader_of run) run.number (lines_of p) ≡ counted (reader_of run) 1 (lines_of s.input) =
    ap (λ (q : List ℕ). (s.output ++ waiting_of out run) ++ counted (reader_of run) run.number (lines_of q)) (sym (append-nil p)) ∙ h.is lines_of all_lines []
    ∙ ap (λ (q : List ℕ). counted (reader_of run) 1 (lines_of q)) (append-nil s.input) in
    rw (r, finish_out_lem buf out run m, last_form buf out run, last_waits buf out run h.sent h.used, t, ← append_assoc s.output (waiting_of out run) (counted (reader_of run) run.number (lines_of p))) x

written_closes : (s : State) (n : ℕ) → Closes s → Closes (written s n)
unfolding written_run
written_closes s n h =
    let w : List ℕ = waiting_of s.out s.run in
    append_assoc s.output (take n w) (waiting_of s.out (written_run s.run n)) ∙ ap (λ (y : List ℕ). s.output ++ y) (sent_waits s.out s.run n) ∙ h

ending_closes : {s : State} → Ending s → Closes s
ending_closes (finishes c l) = finish_closes c l
ending_closes (writes_on {s} n e) = written_closes s n (ending_closes e)

none_waits : (out : List ℕ) (run : Run) → run.used ≤ run.sent → waiting_of out run ≡ []
unfolding waiting_of
none_waits out run h =
    let l : length (take run.used out) ≤ run.sent = simp length-take (omega arith) in
    drop_of_length-le (take run.used out) l

-- What is written when nothing waits any more is the listing, its numbers being cut at the top.
pub whole_counted : {s : State} → Ending s → s.run.used ≤ s.run.sent → s.output ≡ counted (reader_of s.run) 1 (lines_of s.input)
whole_counted {s} e h = sym (append-nil s.output) ∙ ap (λ (x : List ℕ). s.output ++ x) (sym (none_waits s.out s.run h)) ∙ ending_closes e

-- THE CLAIM: the listing, of an input of fewer than 2^64 - 1 bytes.
pub whole_listing : {s : State} → Ending s → s.run.used ≤ s.run.sent → length s.input < top → s.output ≡ listing_of (reader_of s.run) s.input
unfolding listing_of
whole_listing {s} e h n = whole_counted e h ∙ plain (reader_of s.run) 1 (lines_of s.input) (omega (arith, parts_le lines_of glue lines_parts s.input))

-- ---- the input breaks off

-- What is written when no line is left and nothing waits is the listing of the lines that had ended.
pub answered_listing : {s : State} → Course s → s.run.more ≡ false → s.run.used ≤ s.run.sent → length s.input < top
    → s.output ≡ numbered (reader_of s.run) 1 (ended s.input)
unfolding counted
answered_listing {s} c m h n =
    let run : Run = s.run in
    let k = course_stands c in
    let x : (s.output ++ waiting_of s.out run) ++ counted (reader_of run) run.number (ended (pending_of s.buf run ++ [])) ≡ counted (reader_of run) 1 (ended (s.input ++ [])) =
    k.is ended ended_lines [] in
    let y : s.output ≡ counted (reader_of run) 1 (ended s.input) =
    rw (none_waits s.out run h, append-nil (pending_of s.buf run), k.done m, append-nil s.output, append-nil s.output, append-nil s.input) at x in
    y ∙ plain (reader_of run) 1 (ended s.input) (omega (arith, parts_le ended onto ended_parts s.input))

-- ---- with room for one line there is no standing still

moves_by : (read : List ℕ → Result (Reading Position) Refusal) (room n : ℕ) (ls : List (List ℕ)) → 128 ≤ room → left_of read room n ls ≡ true → 0 < taken_of read room n ls
moves_by read room n [] h m = clash (let x : false ≡ true = sym (more_none read room n) ∙ m in cc)
moves_by read room n (l ∷ ls) h m = omega (arith, size_room read room n l ls (omega (arith, line_le read n l)))

-- A step that leaves a line has listed one.
pub moves : (buf out : List ℕ) (run : Run) → 128 ≤ room_of out run → (step_run buf out run).more ≡ true → 0 < step_size buf out run
unfolding step_run step_more step_size
moves buf out run h m = moves_by (reader_of run) (room_of out run) run.number (ended (pending_of buf run)) h m

ends_by : (read : List ℕ → Result (Reading Position) Refusal) (room n : ℕ) (p : List ℕ) → 128 ≤ room → left_of read room n (last_of p) ≡ false
unfolding last_of
ends_by read room n [] h = more_none read room n
ends_by read room n (b ∷ p) h =
    more_room read room n (b ∷ p) [] (omega (arith, line_le read n (b ∷ p))) ∙ more_none read (room - length (line_of read n (b ∷ p))) (next_of n)

last_ends : (buf out : List ℕ) (run : Run) → 128 ≤ room_of out run → (last_run buf out run).more ≡ false
unfolding last_run last_more
last_ends buf out run h = ends_by (reader_of run) (room_of out run) run.number (pending_of buf run) h

-- Where no line is left, `finish` leaves none.
pub ends : (buf out : List ℕ) (run : Run) → run.more ≡ false → 128 ≤ room_of out run → (finish_run buf out run).more ≡ false
ends buf out run m h = ap (λ (x : Run). x.more) (finish_run_lem buf out run m) ∙ last_ends buf out run h
