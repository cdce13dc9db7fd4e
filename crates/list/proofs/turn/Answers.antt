-- `list::turn` meets its contract: where no line is left, at most 65 bytes wait, so that there is room for a read.
-- Assumes nothing.
use native.Mathlib.Omega.{arith}
use Rattle.courses.proofs.Programs.{stands}
use Rattle.list.proofs.turn.Goals as goal

pub fill-requires : goal.fill-requires
fill-requires g c = omega (arith, c.requires.in_bounds, (stands c.requires.reached).short c.if-run.false)
