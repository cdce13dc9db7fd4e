-- Laws of `take` and `drop` whose count may be past the end. Assumes nothing.
use mathlib.Core.Path.{◌≡◌, sym, ap, ◌∙◌}
use mathlib.Core.List.{List, [], ◌∷◌}
use Prim.Native.Nat.{ℕ, zero, suc, ◌+◌, ◌-◌, min}
use native.Mathlib.Nat.{zero-min, min-zero, suc-min-suc, sub-zero, zero-sub, suc-sub-suc}
use lib.ListN.{length, take, drop}
use lib.Seq.{take-nil, take-length, drop-drop}
use Rattle.lines.specs.inner.Steps.{wrote}

pub part : (a e : ℕ) (l : List ℕ) → drop a (take e l) ≡ take (e - a) (drop a l)
part zero e l = rw (sub-zero e)
part (suc a) zero l = rw (zero-sub (suc a))
part (suc a) (suc e) [] = sym (take-nil (suc e - suc a))
part (suc a) (suc e) (x ∷ l) = rw (suc-sub-suc e a) (part a e l)

pub take_min : (i j : ℕ) (l : List ℕ) → take i (take j l) ≡ take (min i j) l
take_min zero j l = rw (zero-min j)
take_min (suc i) zero l = rw (min-zero (suc i))
take_min (suc i) (suc j) [] = sym (take-nil (min (suc i) (suc j)))
take_min (suc i) (suc j) (x ∷ l) = rw (suc-min-suc i j) (ap (λ (t : List ℕ). x ∷ t) (take_min i j l))

pub take_least : (e : ℕ) (l : List ℕ) → take (min e (length l)) l ≡ take e l
take_least e l = sym (take_min e (length l) l) ∙ ap (take e) (take-length l)

pub drop_least : (f : ℕ) (l : List ℕ) → drop (min f (length l)) l ≡ drop f l
drop_least zero l = rw (zero-min (length l))
drop_least (suc f) [] = rw (min-zero (suc f))
drop_least (suc f) (x ∷ l) = rw (suc-min-suc f (length l)) (drop_least f l)

pub wrote_least : (out : List ℕ) (u : ℕ) (t : List ℕ) → wrote out (min u (length out)) t ≡ wrote out u t
unfolding wrote
wrote_least out u t =
    let d : drop (min u (length out) + length t) out ≡ drop (u + length t) out =
    sym (drop-drop (length t) (min u (length out)) out) ∙ ap (drop (length t)) (drop_least u out) ∙ drop-drop (length t) u out in
    rw (take_least u out, d)
