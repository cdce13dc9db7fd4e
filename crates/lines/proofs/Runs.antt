-- What `step` and `finish` make of the answers of the functions that they call. Assumes nothing.
use mathlib.Core.Path.{◌≡◌, refl, sym, ap, ◌∙◌}
use mathlib.Core.Bool.{Bool, true, false, cond}
use mathlib.Core.List.{List, [], ◌∷◌, ◌++◌, append-nil}
use Prim.Native.Nat.{ℕ, ◌+◌, ◌-◌, ◌≤◌, ◌<◌, min}
use native.Mathlib.Nat.{add-zero, zero-add}
use native.Mathlib.Omega.{arith}
use lib.ListN.{length, take, drop, length-take, length-drop}
use lib.Seq.{drop-drop, paste}
use Rattle.std.specs.Prelude.{Option, Some, None, Result}
use Rattle.listing.specs.Listing.{line_of}
use Rattle.lines.specs.declared.Run.{Run}
use Rattle.lines.specs.Lines.{ended}
use Rattle.lines.specs.inner.Steps.{next_of, last_of, fit, answers_of, taken_of, number_past, left_of, PutAt, Within, reader_of, within_run, listed_run, pending_of, room_of, step_text, step_size, step_more, rest_of, kept_of, step_out, step_buf, step_run, last_text, last_more, last_out, last_run, finish_out, finish_run}
use Rattle.lines.proofs.Cuts.{size_within}
use Rattle.lines.proofs.Steps.{text_room, number_room, more_room, text_full, number_full, more_full, text_none, number_none, more_none, wrote_none}
use Rattle.lines.proofs.Listed.{looked_is}
use Rattle.lines.proofs.Parts.{part, take_min, take_least, drop_least, wrote_least}
use Rattle.rules.specs.declared.Refusal.{Refusal}
use Rattle.reader.specs.declared.Reading.{Reading}
use Rattle.position.specs.declared.Position.{Position}

pub size_le : (read : List ℕ → Result (Reading Position) Refusal) (room n : ℕ) (p : List ℕ) → taken_of read room n (ended p) ≤ length p
unfolding taken_of
size_le read room n p = size_within (fit read room n (ended p)) p

last_some : (p : List ℕ) → 0 < length p → last_of p ≡ p ∷ []
unfolding last_of
last_some [] h = absurd (omega arith)
last_some (b ∷ p) h = refl

-- ---- a run's places within the buffers, as `Run::within` answers them

module _ (buf out : List ℕ) (run : Run) where
  abbrev at : Run
  at = within_run (length buf) (length out) run

  pub inside : Within buf out at
  inside = (omega arith, omega arith, omega arith)

  end_is : min run.end (length buf) ≡ length (take run.end buf)
  end_is = sym (length-take run.end buf)

  from_is : min run.from (min run.end (length buf)) ≡ min run.from (length (take run.end buf))
  from_is = ap (min run.from) end_is

  used_is : min run.used (length out) ≡ length (take run.used out)
  used_is = sym (length-take run.used out)

  pending_is : pending_of buf at ≡ pending_of buf run
  unfolding pending_of
  pending_is = rw (from_is, take_least run.end buf) (drop_least run.from (take run.end buf))

  room_is : room_of out at ≡ room_of out run
  unfolding room_of
  room_is = omega arith

  text_is : step_text buf out at ≡ step_text buf out run
  unfolding step_text
  text_is = rw (room_is, pending_is)

  size_is : step_size buf out at ≡ step_size buf out run
  unfolding step_size
  size_is = rw (room_is, pending_is)

  more_is : step_more buf out at ≡ step_more buf out run
  unfolding step_more
  more_is = rw (room_is, pending_is)

  pub out_is : step_out buf out at ≡ step_out buf out run
  unfolding step_out
  out_is = rw text_is (wrote_least out run.used (step_text buf out run))

  -- after the lines that had room
  module _ (listed : Run) (is : listed ≡ listed_run buf out at) where
    more_listed : listed.more ≡ step_more buf out run
    unfolding listed_run
    more_listed = ap (λ (r : Run). r.more) is ∙ more_is

    pub left_more : listed.more ≡ true → (listed ≡ step_run buf out run) × (buf ≡ step_buf buf out run)
    unfolding listed_run step_run step_buf
    left_more m =
        let y : step_more buf out run ≡ true = sym more_listed ∙ m in
        (is ∙ rw (room_is, pending_is, text_is, size_is, more_is, from_is, end_is, used_is, y), rw y)

    module _ (i : listed.from ≤ listed.end) (j : listed.end ≤ length buf) (held : ℕ) (h : held ≡ min 65 (listed.end - listed.from)) where
      left_is : drop listed.from (take listed.end buf) ≡ rest_of buf out run
      unfolding listed_run rest_of pending_of
      left_is = rw is (sym (drop-drop (step_size buf out at) at.from (take at.end buf)) ∙ ap (drop (step_size buf out at)) pending_is ∙ ap (λ (n : ℕ). drop n (pending_of buf run)) size_is)

      kept_is : take held (drop listed.from buf) ≡ kept_of buf out run
      unfolding kept_of
      kept_is =
          ap (λ (n : ℕ). take n (drop listed.from buf)) h ∙ sym (take_min 65 (listed.end - listed.from) (drop listed.from buf))
          ∙ ap (take 65) (sym (part listed.from listed.end buf) ∙ left_is)

      held_is : held ≡ length (kept_of buf out run)
      held_is =
          let n : length (take held (drop listed.from buf)) ≡ held = simp (length-take, length-drop) (omega arith) in
          sym n ∙ ap length kept_is

      pub left_open : listed.more ≡ false → (record listed { from = 0; end = held } ≡ step_run buf out run) × (paste buf 0 (drop listed.from buf) (listed.from + held - listed.from) ≡ step_buf buf out run)
      unfolding listed_run step_run step_buf
      left_open m =
          let y : step_more buf out run ≡ false = sym more_listed ∙ m in
          let n : listed.from + held - listed.from ≡ held = omega arith in
          (rw (is, held_is, room_is, pending_is, text_is, more_is, used_is, y), rw (y, n, kept_is, zero-add, held_is))

  -- ---- the last line

  pub last_none : run.more ≡ false → at.from ≡ at.end → (at ≡ last_run buf out run) × (out ≡ last_out buf out run)
  unfolding last_run last_out last_text last_more last_of
  last_none m q =
      let z : at.end - at.from ≡ 0 = omega arith in
      let p : pending_of buf run ≡ [] = sym pending_is ∙ sym (looked_is buf out at) ∙ ap (λ (n : ℕ). take n (drop at.from buf)) z in
      (rw (p, text_none, number_none, more_none, q, end_is, used_is, m) (rw add-zero), rw (p, text_none, wrote_none))

  module _ (apart : at.from ≡ at.end → ⊥) where
    last_is : last_of (pending_of buf run) ≡ pending_of buf run ∷ []
    last_is =
        let n : length (take (at.end - at.from) (drop at.from buf)) ≡ at.end - at.from = simp (length-take, length-drop) (omega arith) in
        last_some (pending_of buf run) (omega (arith, inside.0, ap length (looked_is buf out at), ap length pending_is))

    put_is : (used : Option ℕ) (exit : List ℕ) → PutAt (line_of (reader_of run) run.number (take (at.end - at.from) (drop at.from buf))) out at.used used exit
        → PutAt (line_of (reader_of run) run.number (pending_of buf run)) out at.used used exit
    put_is used exit q = rw (looked_is buf out at, pending_is) at q

    pub last_full : (exit : List ℕ) → PutAt (line_of (reader_of run) run.number (take (at.end - at.from) (drop at.from buf))) out at.used None exit
        → (record at { more = true } ≡ last_run buf out run) × (exit ≡ last_out buf out run)
    unfolding last_run last_out last_text last_more room_of
    last_full exit q =
        let r : List ℕ → Result (Reading Position) Refusal = reader_of run in
        let n : ℕ = run.number in
        let p : List ℕ = pending_of buf run in
        let x = put_is None exit q in
        let h : length out - run.used < length (line_of r n p) = omega (arith, x.0) in
        let t = text_full r (length out - run.used) n p [] h in (
          rw (last_is, t, number_full r (length out - run.used) n p [] h, more_full r (length out - run.used) n p [] h, from_is, end_is, used_is) (rw add-zero),
          x.1 ∙ rw (last_is, t) (sym (wrote_none out run.used)),
        )

    pub last_fits : (used : ℕ) (exit : List ℕ) → PutAt (line_of (reader_of run) run.number (take (at.end - at.from) (drop at.from buf))) out at.used (Some used) exit
        → run.more ≡ false → (record at { number = next_of run.number; from = at.end; used = used } ≡ last_run buf out run) × (exit ≡ last_out buf out run)
    unfolding last_run last_out last_text last_more room_of
    last_fits used exit q m =
        let r : List ℕ → Result (Reading Position) Refusal = reader_of run in
        let n : ℕ = run.number in
        let p : List ℕ = pending_of buf run in
        let x = put_is (Some used) exit q in
        let h : length (line_of r n p) ≤ length out - run.used = omega (arith, x.0) in
        let left : ℕ = length out - run.used - length (line_of r n p) in
        let t : answers_of r (length out - run.used) n (p ∷ []) ≡ line_of r n p =
        text_room r (length out - run.used) n p [] h ∙ ap (λ (s : List ℕ). line_of r n p ++ s) (text_none r left (next_of n)) ∙ append-nil (line_of r n p) in
        let k : number_past r (length out - run.used) n (p ∷ []) ≡ next_of n = number_room r (length out - run.used) n p [] h ∙ number_none r left (next_of n) in
        let g : left_of r (length out - run.used) n (p ∷ []) ≡ false = more_room r (length out - run.used) n p [] h ∙ more_none r left (next_of n) in
        (rw (last_is, t, k, g, x.1, end_is, used_is, m), x.2 ∙ rw (last_is, t) (wrote_least out run.used (line_of r n p)))

-- where no line is left, it is all that `finish` does
module _ (buf out : List ℕ) (run : Run) (m : run.more ≡ false) where
  pub finish_run_lem : finish_run buf out run ≡ last_run buf out run
  unfolding finish_run
  finish_run_lem = ap (λ (z : Bool). cond z run (last_run buf out run)) m

  pub finish_out_lem : finish_out buf out run ≡ last_out buf out run
  unfolding finish_out
  finish_out_lem = ap (λ (z : Bool). cond z out (last_out buf out run)) m

  pub finished : (next : Run) (exit : List ℕ) → (next ≡ last_run buf out run) × (exit ≡ last_out buf out run) → (next ≡ finish_run buf out run) × (exit ≡ finish_out buf out run)
  finished next exit x = (x.0 ∙ sym finish_run_lem, x.1 ∙ sym finish_out_lem)
