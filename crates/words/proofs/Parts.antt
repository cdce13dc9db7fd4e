-- Whether something stands anywhere, told by parts of a text. Assumes nothing.
use mathlib.Core.Path.{◌≡◌, refl, sym, ap, ◌∙◌}
use mathlib.Core.Bool.{Bool, true, false, ◌||◌}
use mathlib.Core.List.{List}
use Prim.Native.Nat.{ℕ, ◌+◌, ◌-◌, ◌≤◌}
use native.Mathlib.Omega.{arith}
use lib.ListN.{length, take, drop}
use lib.Seq.{take-take, drop-drop}
use Rattle.std.specs.List.{list_any}
use Rattle.std.proofs.lemmas.List.{take-append-drop, drop-take}
use Rattle.std.proofs.lemmas.List.Folds.{list_any-append}
use Rattle.words.proofs.Laws.{rest}

twice : (a b c : Bool) → ((a || b) || (b || c)) ≡ (a || (b || c))
twice true b c = refl
twice false true c = refl
twice false false c = refl

-- of anything that a text has exactly if one of its two parts has it
module _ (f : List ℕ → Bool) (split : (n : ℕ) (s : List ℕ) → f s ≡ (f (take n s) || f (drop n s))) where
  -- a first part and a last one that leave nothing between them tell it
  pub both_ends : (s : List ℕ) (n m : ℕ) → m ≤ n → (f (take n s) || f (drop m s)) ≡ f s
  both_ends s n m h =
      let j = n - m in
      let e : m + j ≡ n = omega arith in
      let front = rw (take-take m (m + j) s (omega arith), drop-take m j s, e) at (split m (take (m + j) s)) in
      rw (front, split m s, split j (drop m s)) (twice (f (take m s)) (f (take j (drop m s))) (f (drop j (drop m s))))

  -- so of a text of m to twice m bytes the first m and the last m tell it
  pub ends : (m : ℕ) (s : List ℕ) → m ≤ length s → length s ≤ m + m → (f (take m s) || f (take m (drop (length s - m) s))) ≡ f s
  ends m s h k =
      let g : length s - (length s - m) ≡ m = omega arith in
      rw (rw g at (rest s (length s - m))) (both_ends s m (length s - m) (omega arith))

  -- and of sixteen bytes the first eight and the last
  pub sixteen : (s : List ℕ) (i : ℕ) → (f (take 8 (drop i s)) || f (take 8 (drop (i + 8) s))) ≡ f (take 16 (drop i s))
  sixteen s i = sym (split 8 (take 16 (drop i s)) ∙ rw (take-take 8 16 (drop i s) (omega arith), drop-take 8 8 (drop i s), drop-drop 8 i s))

-- that a byte of a kind stands anywhere is so told
any_split : (p : ℕ → Bool) (n : ℕ) (s : List ℕ) → list_any p s ≡ (list_any p (take n s) || list_any p (drop n s))
any_split p n s = ap (list_any p) (sym (take-append-drop n s)) ∙ list_any-append p (take n s) (drop n s)

pub any_ends : (p : ℕ → Bool) (s : List ℕ) (n m : ℕ) → m ≤ n → (list_any p (take n s) || list_any p (drop m s)) ≡ list_any p s
any_ends p = both_ends (list_any p) (any_split p)
