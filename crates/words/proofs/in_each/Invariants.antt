-- `words::in_each` meets its contract: the flags so far tell what stands among the bytes passed.
-- Assumes nothing.
use mathlib.Core.Path.{◌≡◌}
use lib.ListN.{take}
use Rattle.std.specs.List.{list_any}
use Rattle.words.specs.Bytes.{high}
use Rattle.words.proofs.in_each.Given as goal

abbrev pub invariant-loop-b : goal.invariant-loop-b
invariant-loop-b g l = high l.all ≡ list_any g.K.Kind.is_of (take l.b-index l.s)
