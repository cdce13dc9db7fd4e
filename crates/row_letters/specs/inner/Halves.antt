-- Where the UPS sets of rows stand in the program's table. No public answer speaks of this. Assumes nothing.
use Rattle.std.specs.Prelude.{Bool, cond}
use Rattle.letters.specs.declared.Stretch.{Stretch}
use Rattle.letters.specs.inner.Stretches.{stretch}

unfoldable pub row_stretch : Bool → Stretch
row_stretch north = cond north (stretch 24 38 0 13) (stretch 0 24 0 8)
