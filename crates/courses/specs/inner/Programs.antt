-- What the functions of a program keep to, so that its buffers and its run are at any time those of a course. Assumes nothing.
use Rattle.std.specs.Prelude.{◌≡◌, ◌≢◌, Bool, true, false, List, ℕ, ◌+◌, ◌≤◌, length, take, Result, Ok, Err}
use Rattle.lines.specs.declared.Run.{Run}
use Rattle.lines.specs.inner.Steps.{received_run, written_run}
use Rattle.courses.specs.declared.Failure.{Failure}
use Rattle.courses.specs.declared.Failure.TheVariants.{Unread, Unwritten}
use Rattle.courses.specs.Courses.{Course, Ending}

-- The buffers and the run are those of a course, and these bytes were read and written in it.
pub record Reached (buf out : List ℕ) (run : Run) : Type 0 where
  pub input : List ℕ
  pub output : List ℕ
  pub course : Course (record { input = input; output = output; buf = buf; out = out; run = run })

-- They are those of a course, all lines that had ended are answered, and nothing waits to be written.
pub record Answered (buf out : List ℕ) (run : Run) : Type 0 where
  pub reached : Reached buf out run
  pub still : run.more ≡ false
  pub none : run.used ≡ 0

-- They are those of an ending.
pub record Over (buf out : List ℕ) (run : Run) : Type 0 where
  pub input : List ℕ
  pub output : List ℕ
  pub ending : Ending (record { input = input; output = output; buf = buf; out = out; run = run })

-- They are those of an ending, and nothing waits to be written.
pub record Closed (buf out : List ℕ) (run : Run) : Type 0 where
  pub over : Over buf out run
  pub none : run.used ≡ 0

-- The three ways in which a whole run stops: a write failed; the input ended, and all of it is listed and written; a read
-- failed, and all lines that had ended are.
pub data Stops (buf out : List ℕ) (run : Run) : Result (Unit {0}) Failure → Type 0 where
  unwritten : Stops buf out run (Err Unwritten)
  through : Closed buf out run → Stops buf out run (Ok tt)
  unread : Answered buf out run → Stops buf out run (Err Unread)

-- Nothing more is read: no more may come, as the input has ended, or a read failed.
abbrev pub ReadsNoMore : Result Bool Failure → Type 0
ReadsNoMore r = (r ≢ Ok true) × (r ≢ Err Unwritten)

-- One read: the bytes that wait stay, and `received` is told how many stand behind them.
pub record Delivered (before after : List ℕ) (run r : Run) : Type 0 where
  pub count : ℕ
  pub fits : run.end + count ≤ length after
  pub front : take run.end after ≡ take run.end before
  pub is : r ≡ received_run (length after) run count

-- Some writes, of each of which `written` is told how many bytes it took.
pub data Sent (run : Run) : Run → Type 0 where
  none : Sent run run
  one : {r : Run} (n : ℕ) → Sent run r → Sent run (written_run r n)

-- What waits to be written stands in the output.
pub record Waits (out : List ℕ) (run : Run) : Type 0 where
  pub sent : run.sent ≤ run.used
  pub used : run.used ≤ length out
