-- `reader::metres_at` meets its contract: exact counts are cast exactly, and the literal is the number 2,000,000.
-- Assumes nothing.
use mathlib.Core.Path.{◌≡◌}
use mathlib.Core.Bool.{true}
use lib.Dec.{T}
use lib.IntN.{ℤ}
use lib.Ieee.{binary64, div, in_float, of_int, of_bits}
use mir.Syntax.{w64}
use mir.Val.{to_z, of_z}
use mir.Facts.{to_z-of_z}
use Rattle.position.specs.declared.Metres.{Metres}
use Rattle.position.specs.inner.Counts.{exact}
use Rattle.position.specs.Metres.{metres_of}
use Rattle.position.proofs.Exact.{exact_float, two_million}
use Rattle.reader.proofs.metres_at.Goals as goal
use Rattle.reader.proofs.metres_at.Goals.{After-struct_told-1, After-struct_told-2-1}

-- a count as it is read back, y, is the count z
cast : (y z : ℤ) → y ≡ z → exact z ≡ true → T (in_float binary64 y)
cast y z e x = rw e (exact_float z x)

divided : (y z v w : ℤ) → y ≡ z → v ≡ w
    → ◌≡◌ {A = Metres} (record { easting = div binary64 (of_int binary64 y) (of_bits binary64 4701340746312056832); northing = div binary64 (of_int binary64 v) (of_bits binary64 4701340746312056832) }) (record { easting = metres_of z; northing = metres_of w })
unfolding metres_of
divided y z v w e f = rw (e, f, two_million)

easting : (c : After-struct_told-1) → to_z w64 (of_z w64 c.args.q.easting) ≡ c.args.q.easting
easting c = to_z-of_z {w = w64} {z = c.args.q.easting} (record { sfits = c.struct_told-1.given.1.1.1.1.0.1 })

northing : (c : After-struct_told-2-1) → to_z w64 (of_z w64 c.args.q.northing) ≡ c.args.q.northing
northing c = to_z-of_z {w = w64} {z = c.args.q.northing} (record { sfits = c.struct_told-2-1.given.1.1.0.1 })

pub int_to_float-easting : goal.int_to_float-easting
int_to_float-easting c = cast _ _ (easting c) c.requires.0

pub int_to_float-northing : goal.int_to_float-northing
int_to_float-northing c = cast _ _ (northing c) c.requires.1

pub returns : goal.returns
returns c = divided _ _ _ _ (easting (goal.at.returns c).After-struct_told-1) (northing c)
