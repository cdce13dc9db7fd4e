-- Every way of cutting an input into blocks gives its listing. Assumes nothing.
use mathlib.Core.Path.{◌≡◌, refl, sym, ap, ◌∙◌}
use mathlib.Core.Bool.{Bool, true, false, cond}
use mathlib.Core.List.{List, [], ◌∷◌, ◌++◌, append_assoc, append-nil}
use Prim.Native.Nat.{ℕ, zero, suc, ◌+◌, ◌-◌, ◌≤◌, ◌<◌}
use native.Mathlib.Omega.{arith}
use borrow.Author.Tests.{le-ltb}
use lib.Dec.{eqb}
use lib.ListN.{length, take, drop, length-drop}
use lib.Seq.{length-take-le}
use Rattle.listing.specs.declared.Form.{Form}
use Rattle.listing.specs.Listing.{read_by}
use Rattle.lines.specs.declared.Run.{Run}
use Rattle.lines.specs.Lines.{listing_of, ended}
use Rattle.lines.specs.inner.Steps.{top, wrote, reader_of, pending_of, room_of, step_text, step_size, step_out, step_run, last_run, finish_run, start_run, received_run, written_run}
use Rattle.lines.proofs.Steps.{length_wrote}
use Rattle.lines.proofs.Runs.{size_le}
use Rattle.courses.specs.Courses.{State, at_start, given, stepped, emptied, finished, Course, begins, reads, steps, writes, finishes, writes_on, drained, taken, served, output_of, joint}
use Rattle.courses.proofs.Stands.{Stands, course_stands, stepped_stands, written_stands, took, text_le}
use Rattle.courses.proofs.Whole.{whole_listing, moves, ends}

-- one of two states
by_cases : (P : State → Type 0) (z : Bool) (a b : State) → P a → P b → P (cond z a b)
by_cases P true a b x y = x
by_cases P false a b x y = y

-- nothing waits to be written, and there is room for a line
pub record Ready (s : State) : Type 0 where
  pub none : s.run.used ≡ 0
  pub room : 128 ≤ length s.out

emptied_none : (run : Run) → (written_run run run.used).used ≡ 0
unfolding written_run
emptied_none run = rw (le-ltb run.used (run.used - run.sent) (omega arith))

step_out_lem : (buf out : List ℕ) (run : Run) → run.used ≡ 0 → length (step_out buf out run) ≡ length out
unfolding step_out step_text room_of
step_out_lem buf out run e = length_wrote out run.used _ (omega (arith, text_le (reader_of run) (length out - run.used) run.number (ended (pending_of buf run))))

step_ready : (s : State) → Ready s → Ready (emptied (stepped s))
step_ready s r = record { none = emptied_none (step_run s.buf s.out s.run); room = omega (arith, step_out_lem s.buf s.out s.run r.none, r.room) }

-- the input and the form stay
abbrev Same : State → State → Type 0
Same s t = (t.input ≡ s.input) × (t.run.form ≡ s.run.form)

step_same : (s : State) → Same s (emptied (stepped s))
unfolding written_run step_run
step_same s = (refl, refl)

-- ---- draining keeps all that matters

drained_course : (k : ℕ) (s : State) → Course s → Course (drained k s)
unfolding drained
drained_course zero s c = c
drained_course (suc k) s c = by_cases Course s.run.more (drained k (emptied (stepped s))) s (drained_course k (emptied (stepped s)) (writes _ (steps c))) c

drained_ready : (k : ℕ) (s : State) → Ready s → Ready (drained k s)
unfolding drained
drained_ready zero s r = r
drained_ready (suc k) s r = by_cases Ready s.run.more (drained k (emptied (stepped s))) s (drained_ready k (emptied (stepped s)) (step_ready s r)) r

drained_same : (k : ℕ) (s : State) → Same s (drained k s)
unfolding drained
drained_same zero s = (refl, refl)
drained_same (suc k) s =
    let t : State = emptied (stepped s) in
    let x = drained_same k t in
    let y = step_same s in
    by_cases (Same s) s.run.more (drained k t) s (x.0 ∙ y.0, x.1 ∙ y.1) (refl, refl)

-- ---- and ends

rests : (k : ℕ) (s : State) → s.run.more ≡ false → (drained k s).run.more ≡ false
unfolding drained
rests zero s e = e
rests (suc k) s e = rw e

room_is : (s : State) → Ready s → 128 ≤ room_of s.out s.run
unfolding room_of
room_is s r = omega (arith, r.none, r.room)

size_is : (buf out : List ℕ) (run : Run) → step_size buf out run ≤ length (take run.end buf) - run.from
unfolding step_size pending_of
size_is buf out run =
    let p : List ℕ = drop run.from (take run.end buf) in
    omega (arith, length-drop run.from (take run.end buf), size_le (reader_of run) (room_of out run) run.number p)

shrinks : (s : State) → Stands s → Ready s → (step_run s.buf s.out s.run).more ≡ true
    → suc ((step_run s.buf s.out s.run).end - (step_run s.buf s.out s.run).from) ≤ s.run.end - s.run.from
unfolding step_run
shrinks s h r e =
    let buf : List ℕ = s.buf in
    let out : List ℕ = s.out in
    let run : Run = s.run in
    let n : length (take run.end buf) ≡ run.end = length-take-le run.end buf h.inside in
    let m : 0 < step_size buf out run = moves buf out run (room_is s r) e in
    let b = size_is buf out run in
    rw e (omega (arith, h.low))

stepped_by : (k : ℕ) (s : State) → Stands s → Ready s → s.run.end - s.run.from < suc k
    → ((t : State) → Stands t → Ready t → t.run.end - t.run.from < k → (drained k t).run.more ≡ false)
    → (z : Bool) → (step_run s.buf s.out s.run).more ≡ z → (drained k (emptied (stepped s))).run.more ≡ false
unfolding written_run
stepped_by k s h r l ih true e = ih (emptied (stepped s)) (written_stands (stepped s) (stepped_stands s h) _) (step_ready s r) (omega (arith, shrinks s h r e))
stepped_by k s h r l ih false e = rests k (emptied (stepped s)) e

more_by : (z : Bool) (a b : State) → b.run.more ≡ z → a.run.more ≡ false → (cond z a b).run.more ≡ false
more_by true a b e f = f
more_by false a b e f = e

-- After at most one step more than bytes wait, each with a write, no line is left: with an input that ends, the listing does.
pub drained_ends : (k : ℕ) (s : State) → Stands s → Ready s → s.run.end - s.run.from < k → (drained k s).run.more ≡ false
unfolding drained
drained_ends zero s h r l = absurd (omega arith)
drained_ends (suc k) s h r l =
    more_by s.run.more (drained k (emptied (stepped s))) s refl
    (stepped_by k s h r l (λ t. drained_ends k t) (step_run s.buf s.out s.run).more refl)

-- ---- one block, and all

received_by : (z : Bool) (a b c : ℕ) → a ≤ c → b ≤ c → cond z a b ≤ c
received_by true a b c x y = x
received_by false a b c x y = y

received_end : (size : ℕ) (run : Run) (n : ℕ) → (received_run size run n).end ≤ run.end + n
unfolding received_run
received_end size run n = received_by (eqb n 0) _ _ _ (omega arith) (omega arith)

module _ (s : State) (c : Course s) (b : List ℕ) where
  put : take (s.run.end + length b) (wrote s.buf s.run.end b) ≡ take s.run.end s.buf ++ b
  put =
      let n : length (take s.run.end s.buf) ≡ s.run.end = length-take-le s.run.end s.buf (course_stands c).inside in
      rw n at (took s.buf s.run.end b)

  given_course : Course (given s b (wrote s.buf s.run.end b))
  given_course = reads b (wrote s.buf s.run.end b) c put

  taken_course : Course (taken s b)
  unfolding taken
  taken_course = drained_course _ _ given_course

  given_ready : Ready s → Ready (given s b (wrote s.buf s.run.end b))
  unfolding received_run
  given_ready r = record { none = r.none; room = r.room }

  taken_ready : Ready s → Ready (taken s b)
  unfolding taken
  taken_ready r = drained_ready _ _ (given_ready r)

  taken_same : ((taken s b).input ≡ s.input ++ b) × ((taken s b).run.form ≡ s.run.form)
  unfolding taken received_run
  taken_same = drained_same (suc (s.run.end + length b)) (given s b (wrote s.buf s.run.end b))

  taken_ends : Ready s → (taken s b).run.more ≡ false
  unfolding taken
  taken_ends r = drained_ends _ _ (course_stands given_course) (given_ready r) (omega (arith, received_end (length (wrote s.buf s.run.end b)) s.run (length b)))

served_course : (s : State) (bs : List (List ℕ)) → Course s → Course (served s bs)
unfolding served
served_course s [] c = c
served_course s (b ∷ bs) c = served_course (taken s b) bs (taken_course s c b)

served_ready : (s : State) (bs : List (List ℕ)) → Course s → Ready s → Ready (served s bs)
unfolding served
served_ready s [] c r = r
served_ready s (b ∷ bs) c r = served_ready (taken s b) bs (taken_course s c b) (taken_ready s c b r)

served_ends : (s : State) (bs : List (List ℕ)) → Course s → Ready s → s.run.more ≡ false → (served s bs).run.more ≡ false
unfolding served
served_ends s [] c r e = e
served_ends s (b ∷ bs) c r e = served_ends (taken s b) bs (taken_course s c b) (taken_ready s c b r) (taken_ends s c b r)

served_same : (s : State) (bs : List (List ℕ)) → Course s → ((served s bs).input ≡ s.input ++ joint bs) × ((served s bs).run.form ≡ s.run.form)
unfolding served joint
served_same s [] c = (sym (append-nil s.input), refl)
served_same s (b ∷ bs) c =
    let x = served_same (taken s b) bs (taken_course s c b) in
    let y = taken_same s c b in
    (x.0 ∙ ap (λ (i : List ℕ). i ++ joint bs) y.0 ∙ append_assoc s.input b (joint bs), x.1 ∙ y.1)

module _ (form : Form) (buf out : List ℕ) where
  begun_ready : 128 ≤ length out → Ready (at_start form buf out)
  unfolding start_run
  begun_ready h = record { none = refl; room = h }

  begun_ends : (at_start form buf out).run.more ≡ false
  unfolding start_run
  begun_ends = refl

  begun_form : (at_start form buf out).run.form ≡ form
  unfolding start_run
  begun_form = refl

finish_form : (buf out : List ℕ) (run : Run) → (finish_run buf out run).form ≡ run.form
unfolding finish_run last_run
finish_form buf out run = by run.more
  where
    by : (z : Bool) → (cond z run (last_run buf out run)).form ≡ run.form
    by true = refl
    by false = refl

written_form : (run : Run) (n : ℕ) → (written_run run n).form ≡ run.form
unfolding written_run
written_form run n = refl

emptied_over : (run : Run) → (written_run run run.used).used ≤ (written_run run run.used).sent
emptied_over run = omega (arith, emptied_none run)

-- THE CLAIM, for blocks: however an input is cut, all that is written is its listing.
pub blocks_listing : (form : Form) (buf out : List ℕ) (blocks : List (List ℕ)) → 128 ≤ length out → length (joint blocks) < top
    → output_of form buf out blocks ≡ listing_of (read_by form) (joint blocks)
unfolding output_of
blocks_listing form buf out blocks room n =
    let s : State = at_start form buf out in
    let t : State = served s blocks in
    let c = served_course s blocks (begins form buf out) in
    let r = served_ready s blocks (begins form buf out) (begun_ready form buf out room) in
    let same = served_same s blocks (begins form buf out) in
    let e = served_ends s blocks (begins form buf out) (begun_ready form buf out room) (begun_ends form buf out) in
    let l = ends t.buf t.out t.run e (room_is t r) in
    let f : (emptied (finished t)).run.form ≡ form = written_form _ _ ∙ finish_form t.buf t.out t.run ∙ same.1 ∙ begun_form form buf out in
    whole_listing (writes_on _ (finishes c l)) (emptied_over (finish_run t.buf t.out t.run)) (rw same.0 n)
    ∙ ap (λ (i : List ℕ). listing_of (reader_of (emptied (finished t)).run) i) same.0
    ∙ ap (λ (g : Form). listing_of (read_by g) (joint blocks)) f
