-- A set as a part of a table. No public answer speaks of this. Assumes nothing.
use Rattle.std.specs.Prelude.{ℕ}
use Rattle.letters.specs.declared.Stretch.{Stretch}

-- From a place of a table up to another; the letters before the first, those left out aside; the tile of the first.
abbrev pub stretch : ℕ → ℕ → ℕ → ℕ → Stretch
stretch start end first tile = record { start = start; end = end; first = first; tile = tile }
