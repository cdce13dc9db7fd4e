-- `reader::read` meets its contract: the head ends within the text, and the check does the rest.
-- Assumes nothing.
use mathlib.Core.Path.{sym, ◌∙◌}
use Prim.Native.Nat.{◌≤◌}
use native.Mathlib.Omega.{arith}
use borrow.Author.Rules.{rules}
use lib.ListN.{length}
use Rattle.head.proofs.Began.{began}
use Rattle.reader.proofs.read.Goals as goal
use Rattle.reader.proofs.read.Goals.{In_ok-head}

inside : (c : In_ok-head) → c.in_ok-head.head.next ≤ length c.args.text.now
inside c = let b = began _ _ (sym c.head_of.ensures ∙ c.in_ok-head.was) in let m = b.more in let n = b.next in omega arith

pub slice_bounds-tail_of-count : goal.slice_bounds-tail_of-count
slice_bounds-tail_of-count c = inside c

pub slice_bounds-tail_of-start : goal.slice_bounds-tail_of-start
slice_bounds-tail_of-start c = let h = inside c in search rules
