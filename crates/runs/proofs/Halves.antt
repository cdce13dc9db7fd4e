-- What stands behind two halves: the tests that the digits passed, and how large the numbers are. Assumes nothing.
use mathlib.Core.Path.{◌≡◌, sym, ap, ◌∙◌}
use mathlib.Core.Bool.{true, not}
use mathlib.Core.List.{List}
use Prim.Native.Nat.{ℕ, ◌*◌, ◌/◌, ◌%◌, ◌^◌, ◌≤◌, ◌<◌}
use native.Mathlib.Omega.{arith}
use borrow.Author.Tests.{ltb-false, eqb-false, not-false}
use lib.Dec.{eqb, ltb}
use lib.IntN.{pos}
use lib.ListN.{length, take, drop, length-take, length-drop}
use Rattle.whole.proofs.Choice.{past}
use Rattle.whole.proofs.Parts.{clash}
use Rattle.words.specs.Bytes.{all_digits}
use Rattle.words.proofs.Laws.{and_left, and_right, all_split}
use Rattle.runs.specs.Runs.{value_of}
use Rattle.runs.specs.declared.Digits.{Digits}
use Rattle.runs.specs.Digits.{digits_of}
use Rattle.runs.proofs.Laws.{number_lt}
use Rattle.std.specs.Prelude.{Ok}

-- n digits on each axis, 0 to 11
pub record Halved (ds : List ℕ) (d : Digits) : Type 0 where
  pub n : ℕ
  pub p : d.p ≡ pos n
  pub few : n ≤ 11
  pub all : length ds ≡ 2 * n
  pub digits : all_digits ds ≡ true
  pub east : d.easting ≡ value_of (take n ds)
  pub north : d.northing ≡ value_of (drop n ds)
  pub east_lt : d.easting < 10 ^ n
  pub north_lt : d.northing < 10 ^ n

pub halved_by : (ds : List ℕ) (d : Digits) → digits_of ds ≡ Ok d → Halved ds d
unfolding digits_of
halved_by ds d e =
    let a = past (not (all_digits ds)) _ _ _ (λ n. clash (cc)) e in
    let b = past (eqb (length ds % 2) 1) _ _ _ (λ n. clash (cc)) a.1 in
    let c = past (ltb 22 (length ds)) _ _ _ (λ n. clash (cc)) b.1 in
    let k : record { p = pos (length ds / 2); easting = value_of (take (length ds / 2) ds); northing = value_of (drop (length ds / 2) ds) } ≡ d = cc in
    let t = not-false _ a.0 in
    let odd = eqb-false (length ds % 2) 1 b.0 in
    let most = ltb-false 22 (length ds) c.0 in
    let even : length ds ≡ 2 * (length ds / 2) = omega arith in
    let both = sym (all_split (length ds / 2) ds) ∙ t in
    let x = number_lt (take (length ds / 2) ds) (and_left _ _ both) in
    let y = number_lt (drop (length ds / 2) ds) (and_right (all_digits (take (length ds / 2) ds)) _ both) in
    let lx : length (take (length ds / 2) ds) ≡ length ds / 2 = simp length-take (omega arith) in
    let ly : length (drop (length ds / 2) ds) ≡ length ds / 2 = simp length-drop (omega arith) in
    record {
      n = length ds / 2;
      p = ap (λ (x : Digits). x.p) (sym k);
      few = omega arith;
      all = even;
      digits = t;
      east = ap (λ (x : Digits). x.easting) (sym k);
      north = ap (λ (x : Digits). x.northing) (sym k);
      east_lt = rw (← k) (rw lx at x);
      north_lt = rw (← k) (rw ly at y);
    }
