-- What a call lists of the bytes that wait, by the room that it has. Assumes nothing.
use Rattle.std.specs.Prelude.{Bool, true, false, cond, List, [], ◌∷◌, ◌++◌, ◌≡◌, ℕ, zero, suc, ◌+◌, ◌-◌, ◌<◌, ◌≤◌, min, eqb, ltb, Option, Some, None, length, take, drop, Result}
use Rattle.listing.specs.declared.Form.{Form}
use Rattle.listing.specs.Listing.{read_by, line_of}
use Rattle.lines.specs.declared.Run.{Run}
use Rattle.lines.specs.Lines.{ended}
use Rattle.rules.specs.declared.Refusal.{Refusal}
use Rattle.reader.specs.declared.Reading.{Reading}
use Rattle.position.specs.declared.Position.{Position}

-- ---- numbers, with a top

abbrev pub top : ℕ
top = 18446744073709551615

-- A number at the top of 64 bits stays there, so that no sum wraps.
unfoldable pub next_of : ℕ → ℕ
next_of n = cond (ltb n top) (n + 1) n

-- The number k lines later.
unfoldable pub number_after : ℕ → ℕ → ℕ
number_after zero n = n
number_after (suc k) n = number_after k (next_of n)

-- `numbered`, but for the top.
unfoldable pub counted : (List ℕ → Result (Reading Position) Refusal) → ℕ → List (List ℕ) → List ℕ
counted read n [] = []
counted read n (l ∷ ls) = line_of read n l ++ counted read (next_of n) ls

-- ---- the bytes that ended lines take

unfoldable pub joined : List (List ℕ) → List ℕ
joined [] = []
joined (l ∷ ls) = l ++ (10 ∷ joined ls)

-- The last line: what LF does not end, where there is any of it.
unfoldable pub last_of : List ℕ → List (List ℕ)
last_of [] = []
last_of (b ∷ s) = (b ∷ s) ∷ []

-- ---- as many lines as have room, in order

unfoldable pub fit : (List ℕ → Result (Reading Position) Refusal) → ℕ → ℕ → List (List ℕ) → ℕ
fit read room n [] = zero
fit read room n (l ∷ ls) =
    cond (ltb room (length (line_of read n l))) zero (suc (fit read (room - length (line_of read n l)) (next_of n) ls))

-- Their answers,
unfoldable pub answers_of : (List ℕ → Result (Reading Position) Refusal) → ℕ → ℕ → List (List ℕ) → List ℕ
answers_of read room n ls = counted read n (take (fit read room n ls) ls)

-- the bytes that they take in the input,
unfoldable pub taken_of : (List ℕ → Result (Reading Position) Refusal) → ℕ → ℕ → List (List ℕ) → ℕ
taken_of read room n ls = length (joined (take (fit read room n ls) ls))

-- the next number,
unfoldable pub number_past : (List ℕ → Result (Reading Position) Refusal) → ℕ → ℕ → List (List ℕ) → ℕ
number_past read room n ls = number_after (fit read room n ls) n

unfoldable pub some : List (List ℕ) → Bool
some [] = false
some (l ∷ ls) = true

-- and whether a line is left.
unfoldable pub left_of : (List ℕ → Result (Reading Position) Refusal) → ℕ → ℕ → List (List ℕ) → Bool
left_of read room n ls = some (drop (fit read room n ls) ls)

-- ---- buffers

-- A buffer with a text at a place, all else as it was.
unfoldable pub wrote : List ℕ → ℕ → List ℕ → List ℕ
wrote out at t = take at out ++ (t ++ drop (at + length t) out)

-- One text put at a place, where it has room: where it ends, and what the buffer then holds.
abbrev pub PutAt : (t out : List ℕ) (at : ℕ) → Option ℕ → (exit : List ℕ) → Type 0
PutAt t out at (Some used) exit = (length t ≤ length out - at) × (used ≡ at + length t) × (exit ≡ wrote out at t)
PutAt t out at None exit = (length out - at < length t) × (exit ≡ out)

-- ---- a step

abbrev pub reader_of : Run → List ℕ → Result (Reading Position) Refusal
reader_of run = read_by run.form

-- The state of the same run at another place.
abbrev pub moved_run : Run → (number from end used : ℕ) (more : Bool) → Run
moved_run run number from end used more = record { form = run.form; number = number; from = from; end = end; sent = run.sent; used = used; more = more }

-- Its places, none of them past a buffer's end.
abbrev pub within_run : (size room : ℕ) → Run → Run
within_run size room run = moved_run run run.number (min run.from (min run.end size)) (min run.end size) (min run.used room) run.more

abbrev pub Within : (buf out : List ℕ) → Run → Type 0
Within buf out run = (run.from ≤ run.end) × (run.end ≤ length buf) × (run.used ≤ length out)

-- The bytes that wait to be listed.
unfoldable pub pending_of : List ℕ → Run → List ℕ
pending_of buf run = drop run.from (take run.end buf)

-- The bytes that wait to be written.
unfoldable pub waiting_of : List ℕ → Run → List ℕ
waiting_of out run = drop run.sent (take run.used out)

unfoldable pub room_of : List ℕ → Run → ℕ
room_of out run = length out - run.used

-- What is put into the output, and how many bytes of the input that answers.
unfoldable pub step_text : List ℕ → List ℕ → Run → List ℕ
step_text buf out run = answers_of (reader_of run) (room_of out run) run.number (ended (pending_of buf run))

unfoldable pub step_size : List ℕ → List ℕ → Run → ℕ
step_size buf out run = taken_of (reader_of run) (room_of out run) run.number (ended (pending_of buf run))

unfoldable pub step_more : List ℕ → List ℕ → Run → Bool
step_more buf out run = left_of (reader_of run) (room_of out run) run.number (ended (pending_of buf run))

-- A run within its buffers, behind the lines that had room.
unfoldable pub listed_run : List ℕ → List ℕ → Run → Run
listed_run buf out run =
    moved_run run
    (number_past (reader_of run) (room_of out run) run.number (ended (pending_of buf run)))
    (run.from + step_size buf out run)
    run.end
    (run.used + length (step_text buf out run))
    (step_more buf out run)

-- What is not listed: of an open line 65 bytes say enough.
unfoldable pub rest_of : List ℕ → List ℕ → Run → List ℕ
rest_of buf out run = drop (step_size buf out run) (pending_of buf run)

unfoldable pub kept_of : List ℕ → List ℕ → Run → List ℕ
kept_of buf out run = take 65 (rest_of buf out run)

unfoldable pub step_out : List ℕ → List ℕ → Run → List ℕ
step_out buf out run = wrote out run.used (step_text buf out run)

-- Lines that lacked room stay where they stand; an open line goes to the front.
unfoldable pub step_buf : List ℕ → List ℕ → Run → List ℕ
step_buf buf out run = cond (step_more buf out run) buf (kept_of buf out run ++ drop (length (kept_of buf out run)) buf)

unfoldable pub step_run : List ℕ → List ℕ → Run → Run
step_run buf out run =
    moved_run run
    (number_past (reader_of run) (room_of out run) run.number (ended (pending_of buf run)))
    (cond (step_more buf out run) (min run.from (length (take run.end buf)) + step_size buf out run) 0)
    (cond (step_more buf out run) (length (take run.end buf)) (length (kept_of buf out run)))
    (length (take run.used out) + length (step_text buf out run))
    (step_more buf out run)

-- ---- the last line

unfoldable pub last_text : List ℕ → List ℕ → Run → List ℕ
last_text buf out run = answers_of (reader_of run) (room_of out run) run.number (last_of (pending_of buf run))

unfoldable pub last_more : List ℕ → List ℕ → Run → Bool
last_more buf out run = left_of (reader_of run) (room_of out run) run.number (last_of (pending_of buf run))

unfoldable pub last_out : List ℕ → List ℕ → Run → List ℕ
last_out buf out run = wrote out run.used (last_text buf out run)

unfoldable pub last_run : List ℕ → List ℕ → Run → Run
last_run buf out run =
    moved_run run
    (number_past (reader_of run) (room_of out run) run.number (last_of (pending_of buf run)))
    (cond (last_more buf out run) (min run.from (length (take run.end buf))) (length (take run.end buf)))
    (length (take run.end buf))
    (length (take run.used out) + length (last_text buf out run))
    (last_more buf out run)

-- Where lines are left, the last one waits for them: nothing moves.
unfoldable pub finish_out : List ℕ → List ℕ → Run → List ℕ
finish_out buf out run = cond run.more out (last_out buf out run)

unfoldable pub finish_run : List ℕ → List ℕ → Run → Run
finish_run buf out run = cond run.more run (last_run buf out run)

-- ---- before the first block; after a read; after a write

unfoldable pub start_run : Form → Run
start_run form = record { form = form; number = 1; from = 0; end = 0; sent = 0; used = 0; more = false }

-- n bytes more wait to be listed, as far as the buffer goes. Where none came, nothing changes.
unfoldable pub received_run : ℕ → Run → ℕ → Run
received_run size run n =
    moved_run run run.number run.from (cond (eqb n 0) run.end (min (run.end + n) size)) run.used (cond (eqb n 0) run.more true)

-- The first n of the bytes that wait to be written no longer do. Where none is left, the output is free again.
unfoldable pub written_run : Run → ℕ → Run
written_run run n =
    record {
      form = run.form;
      number = run.number;
      from = run.from;
      end = run.end;
      sent = cond (ltb n (run.used - run.sent)) (run.sent + n) 0;
      used = cond (ltb n (run.used - run.sent)) run.used 0;
      more = run.more;
    }
