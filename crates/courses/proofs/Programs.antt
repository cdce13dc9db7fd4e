-- A program whose functions keep to their contracts goes by a course, and ends with the listing. Assumes nothing.
use mathlib.Core.Path.{◌≡◌, refl, sym, ap, ◌∙◌}
use mathlib.Core.Bool.{false}
use mathlib.Core.List.{List}
use Prim.Native.Nat.{ℕ, ◌-◌, ◌≤◌, ◌<◌}
use native.Mathlib.Omega.{arith}
use borrow.Author.Tests.{eq-eqb}
use lib.ListN.{length, take, drop, length-drop}
use lib.Seq.{length-take-le}
use Rattle.listing.specs.declared.Form.{Form}
use Rattle.lines.specs.declared.Run.{Run}
use Rattle.lines.specs.Lines.{numbered, listing_of, ended}
use Rattle.lines.specs.inner.Steps.{top, reader_of, last_of, room_of, pending_of, last_text, last_out, last_run, start_run, step_run, step_buf, step_out, finish_run, finish_out, received_run, written_run}
use Rattle.lines.proofs.Runs.{finish_run_lem, finish_out_lem}
use Rattle.std.specs.Prelude.{Result, Ok, Err, OnOk, IsOkUnless}
use Rattle.courses.specs.declared.Failure.{Failure}
use Rattle.courses.specs.declared.Failure.TheVariants.{Unwritten}
use Rattle.courses.specs.Courses.{begins, steps, writes, finishes, writes_on}
use Rattle.courses.specs.inner.Programs.{Reached, Answered, Over, Closed, Stops, unwritten, through, Delivered, Sent, none, one, Waits}
use Rattle.courses.proofs.Stands.{Stands, course_stands, put_within, text_le, sent_bound}
use Rattle.courses.proofs.Whole.{read_block, whole_listing, answered_listing, ends}

-- what a reached state keeps to
pub stands : {buf out : List ℕ} {run : Run} (r : Reached buf out run) → Stands (record { input = r.input; output = r.output; buf = buf; out = out; run = run })
stands r = course_stands r.course

pub waits : {buf out : List ℕ} {run : Run} → Reached buf out run → Waits out run
waits r = record { sent = (stands r).sent; used = (stands r).used }

-- ---- reads, steps and writes

pub start_reached : (form : Form) (buf out : List ℕ) (r : Run) → r ≡ start_run form → Reached buf out r
start_reached form buf out r e = rw e (record { input = _; output = _; course = begins form buf out })

pub delivered_reached : (before after out : List ℕ) (run r : Run) → Reached before out run → Delivered before after run r → Reached after out r
delivered_reached before after out run r h d =
    let b : List ℕ = take d.count (drop run.end after) in
    let n : length b ≡ d.count = length-take-le d.count (drop run.end after) (simp length-drop (omega (arith, d.fits))) in
    rw (d.is ∙ ap (received_run (length after) run) (sym n))
    (record { input = _; output = _; course = read_block after d.count h.course d.fits d.front })

pub stepped_reached : (buf out : List ℕ) (run : Run) (buf' out' : List ℕ) (r : Run) → Reached buf out run
    → (r ≡ step_run buf out run) × (buf' ≡ step_buf buf out run) × (out' ≡ step_out buf out run) → Reached buf' out' r
stepped_reached buf out run buf' out' r h e = rw (e.0, e.1, e.2) (record { input = _; output = _; course = steps h.course })

-- what each write keeps, all of them keep
sent_keeps : (P : Run → Type 0) → ((r : Run) (n : ℕ) → P r → P (written_run r n)) → (run r : Run) → P run → Sent run r → P r
sent_keeps P one-keeps run r h none = h
sent_keeps P one-keeps run r h (one {r = q} n s) = one-keeps q n (sent_keeps P one-keeps run q h s)

pub sent_reached : (buf out : List ℕ) (run r : Run) → Reached buf out run → Sent run r → Reached buf out r
sent_reached buf out = sent_keeps (Reached buf out) (λ r n h. record { input = _; output = _; course = writes n h.course })

sent_over : (buf out : List ℕ) (run r : Run) → Over buf out run → Sent run r → Over buf out r
sent_over buf out = sent_keeps (Over buf out) (λ r n h. record { input = _; output = _; ending = writes_on n h.ending })

-- writes after writes
pub sent_on : (a b c : Run) → Sent a b → Sent b c → Sent a c
sent_on a = sent_keeps (Sent a) (λ r n s. one n s)

pub sent_more : (run r : Run) → Sent run r → r.more ≡ run.more
unfolding written_run
sent_more run r s = sent_keeps (λ q. q.more ≡ run.more) (λ q n e. e) run r refl s

pub written_sent : (run r : Run) (n : ℕ) → r ≡ written_run run n → Sent run r
written_sent run r n e = rw e (one n none)

-- a read that brings nothing leaves no line where none was left
pub none_more : (size n : ℕ) (run r : Run) → r ≡ received_run size run n → n ≡ 0 → r.more ≡ run.more
unfolding received_run
none_more size n run r e z = rw (e, eq-eqb n 0 z)

pub written_waits : (out : List ℕ) (run r : Run) (n : ℕ) → Waits out run → r ≡ written_run run n → Waits out r
written_waits out run r n h e = let b = sent_bound out run n h.used in rw e (record { sent = b.0; used = b.1 })

-- what was answered, once it is written
pub answers : (buf out : List ℕ) (run r : Run) → Reached buf out run → run.more ≡ false → Sent run r → r.used ≡ 0 → Answered buf out r
answers buf out run r h m s z = record { reached = sent_reached buf out run r h s; still = sent_more run r s ∙ m; none = z }

-- ---- the end

module _ (buf out : List ℕ) (run : Run) (w : Waits out run) where
  last_waits : Waits (last_out buf out run) (last_run buf out run)
  unfolding last_out last_run last_text room_of
  last_waits =
      let n : length (take run.used out) ≡ run.used = length-take-le run.used out w.used in
      record {
        sent = omega (arith, w.sent);
        used = put_within out run.used _ (text_le (reader_of run) (length out - run.used) run.number (last_of (pending_of buf run)));
      }

  pub finish_waits : run.more ≡ false → (out' : List ℕ) (r : Run) → (r ≡ finish_run buf out run) × (out' ≡ finish_out buf out run) → Waits out' r
  finish_waits m out' r e = rw (e.0, e.1, finish_run_lem buf out run m, finish_out_lem buf out run m) last_waits

-- After `finish`, with nothing left and room for one line, all that is left to do is to write.
pub closes : (buf out : List ℕ) (run : Run) (out' : List ℕ) (r q : Run) → Reached buf out run → run.more ≡ false → 128 ≤ length out → run.used ≡ 0
    → (r ≡ finish_run buf out run) × (out' ≡ finish_out buf out run) → Sent r q → q.used ≡ 0 → Closed buf out' q
unfolding room_of
closes buf out run out' r q h m room free e s z =
    let o : Over buf out' r = rw (e.0, e.1) (record { input = _; output = _; ending = finishes h.course (ends buf out run m (omega arith)) }) in
    record { over = sent_over buf out' r q o s; none = z }

-- ---- how a run stops

-- by a write that failed
pub stops_unwritten : (buf out : List ℕ) (run : Run) (e : Failure) → e ≡ Unwritten → Stops buf out run (Err e)
stops_unwritten buf out run e is = rw is unwritten

-- as the last writes end
pub stops : (buf out : List ℕ) (run : Run) (sent : Result (Unit {0}) Failure) → IsOkUnless sent Unwritten → OnOk sent (Closed buf out run)
    → Stops buf out run sent
stops buf out run (Ok x) h c = through c
stops buf out run (Err e) h c = stops_unwritten buf out run e h

-- THE CLAIM, for a program: what it has written when it is closed is the listing of what it has read.
pub closed_listing : {buf out : List ℕ} {run : Run} (c : Closed buf out run) → length c.over.input < top
    → c.over.output ≡ listing_of (reader_of run) c.over.input
closed_listing c n = whole_listing c.over.ending (omega (arith, c.none)) n

-- And where a read failed, the listing of the lines that had ended.
pub answered_lines : {buf out : List ℕ} {run : Run} (a : Answered buf out run) → length a.reached.input < top
    → a.reached.output ≡ numbered (reader_of run) 1 (ended a.reached.input)
answered_lines a n = answered_listing a.reached.course a.still (omega (arith, a.none)) n
