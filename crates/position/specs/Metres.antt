-- Metres of a count of units: document 01, "Each metre value is the unit count as f64 divided by 2,000,000.0, rounded once."
-- Assumes nothing.
use Rattle.std.specs.Prelude.{ℤ, pos, Float}
use Rattle.std.specs.Float.{binary64}
use Rattle.std.specs.Float.Ieee.{div, of_int}

unfoldable pub metres_of : ℤ → Float
metres_of u = div binary64 (of_int binary64 u) (of_int binary64 (pos 2000000))
