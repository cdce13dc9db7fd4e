-- A text that has no room at a place, and one that is copied there. Assumes nothing.
use mathlib.Core.Path.{◌≡◌}
use mathlib.Core.List.{List, ◌++◌}
use Prim.Native.Nat.{ℕ, ◌+◌, ◌-◌, ◌≤◌, ◌<◌}
use native.Mathlib.Omega.{arith}
use borrow.Author.Tests.{lt-ltb, le-ltb}
use lib.ListN.{length, take, drop}
use lib.Seq.{drop-drop}
use Rattle.say.specs.Put.{is_too_long, put_end, put_leaves}

module _ (at : ℕ) (t l : List ℕ) where
  pub no_room : length l < at + length t → (at ≡ put_end at t l) × (l ≡ put_leaves at t l)
  unfolding is_too_long put_end put_leaves
  no_room h = let e = lt-ltb (length l) (at + length t) h in (rw e, rw e)

  -- the part of the buffer that is as long as the text takes it
  pub copied : at + length t ≤ length l → (part : List ℕ) → part ≡ t
      → (at + length t ≡ put_end at t l) × (take at l ++ (part ++ drop (at + length t - at) (drop at l)) ≡ put_leaves at t l)
  unfolding is_too_long put_end put_leaves
  copied h part is =
      let e = le-ltb (length l) (at + length t) h in
      let n : at + length t - at ≡ length t = omega arith in
      (rw e, rw (is, n, drop-drop (length t) at l, e))
