-- Where the UPS sets of columns stand in the program's table. No public answer speaks of this. Assumes nothing.
use Rattle.std.specs.Prelude.{cond, ℕ, eqb}
use Prim.Native.Char.{code}
use Rattle.letters.specs.declared.Stretch.{Stretch}
use Rattle.letters.specs.inner.Stretches.{stretch}

unfoldable pub column_stretch : ℕ → Stretch
column_stretch b =
    cond (eqb b (code "A")) (stretch 0 12 6 8)
    (cond (eqb b (code "B")) (stretch 12 24 0 20) (cond (eqb b (code "Y")) (stretch 24 31 11 13) (cond (eqb b (code "Z")) (stretch 31 38 0 20) (stretch 0 0 0 0))))
