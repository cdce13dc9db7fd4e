-- Row letters go back and forth over every shift. Assumes nothing.
use mathlib.Core.Path.{refl}
use Prim.Native.Nat.{ℕ}
use lib.IntN.{ℤ}
use Rattle.rows.specs.Letters.{letter_of}
use Rattle.rows.proofs.Theorems.{found, answered}
use Rattle.laws.specs.Shifts.{Letters}

pub letters_return : (shift : ℕ) (b : ℤ) (c : ℕ) → Letters shift b c
letters_return shift b c = record {
  written_read = λ r a. found b c shift (letter_of shift r) r a refl;
  read_written = λ l x e. answered b c shift l x e;
}
