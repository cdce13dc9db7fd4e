-- How the input of a listing may come and its output go. Assumes nothing.
use Rattle.std.specs.Prelude.{◌≡◌, false, cond, List, [], ◌∷◌, ◌++◌, ℕ, zero, suc, ◌+◌, length, take}
use Rattle.listing.specs.declared.Form.{Form}
use Rattle.lines.specs.declared.Run.{Run}
use Rattle.lines.specs.inner.Steps.{start_run, received_run, written_run, step_run, step_buf, step_out, finish_run, finish_out, waiting_of, wrote}

-- All that was read so far, all that was written, the two buffers and the run.
pub record State : Type 0 where
  pub input : List ℕ
  pub output : List ℕ
  pub buf : List ℕ
  pub out : List ℕ
  pub run : Run

abbrev pub at_start : Form → List ℕ → List ℕ → State
at_start form buf out = record { input = []; output = []; buf = buf; out = out; run = start_run form }

-- A block was read, the buffer is as the system left it, and `received` is told how many bytes came.
abbrev pub given : State → List ℕ → List ℕ → State
given s block buf =
    record { input = s.input ++ block; output = s.output; buf = buf; out = s.out; run = received_run (length buf) s.run (length block) }

-- What `step` does.
abbrev pub stepped : State → State
stepped s =
    record {
      input = s.input;
      output = s.output;
      buf = step_buf s.buf s.out s.run;
      out = step_out s.buf s.out s.run;
      run = step_run s.buf s.out s.run;
    }

-- The first n of the bytes that waited were written, or all where they are fewer, and `written` is told n.
abbrev pub written : State → ℕ → State
written s n =
    record { input = s.input; output = s.output ++ take n (waiting_of s.out s.run); buf = s.buf; out = s.out; run = written_run s.run n }

-- What `finish` does.
abbrev pub finished : State → State
finished s =
    record {
      input = s.input;
      output = s.output;
      buf = s.buf;
      out = finish_out s.buf s.out s.run;
      run = finish_run s.buf s.out s.run;
    }

-- Before the input ends: reads, steps and writes, each as often as it pleases, in any order. A read keeps the bytes that
-- wait, which stand before `end`, and puts its block behind them.
pub data Course : State → Type 0 where
  begins : (form : Form) (buf out : List ℕ) → Course (at_start form buf out)
  reads : {s : State} (block buf : List ℕ) → Course s → take (s.run.end + length block) buf ≡ take s.run.end s.buf ++ block
      → Course (given s block buf)
  steps : {s : State} → Course s → Course (stepped s)
  writes : {s : State} (n : ℕ) → Course s → Course (written s n)

-- After it: `finish`, once it leaves nothing to list, and writes.
pub data Ending : State → Type 0 where
  finishes : {s : State} → Course s → (finish_run s.buf s.out s.run).more ≡ false → Ending (finished s)
  writes_on : {s : State} (n : ℕ) → Ending s → Ending (written s n)

-- ---- one course for every way of cutting the input into blocks

-- All that waits is written.
abbrev pub emptied : State → State
emptied s = written s s.run.used

-- Steps, each with a write, until no line is left, but at most k.
unfoldable pub drained : ℕ → State → State
drained zero s = s
drained (suc k) s = cond s.run.more (drained k (emptied (stepped s))) s

-- The next block is read behind the bytes that wait, and the lines that it ends are listed.
unfoldable pub taken : State → List ℕ → State
taken s block = drained (suc (s.run.end + length block)) (given s block (wrote s.buf s.run.end block))

unfoldable pub served : State → List (List ℕ) → State
served s [] = s
served s (block ∷ blocks) = served (taken s block) blocks

-- All that is written for an input that comes in these blocks.
unfoldable pub output_of : Form → (buf out : List ℕ) → List (List ℕ) → List ℕ
output_of form buf out blocks = (emptied (finished (served (at_start form buf out) blocks))).output

unfoldable pub joint : List (List ℕ) → List ℕ
joint [] = []
joint (block ∷ blocks) = block ++ joint blocks
