-- The guesses are right of the rows: one computation each, and the law of `letters` does the rest. Assumes nothing.
use mathlib.Core.Path.{◌≡◌, refl}
use mathlib.Core.List.{List}
use mathlib.Core.Bool.{Bool, true, false, cond}
use Prim.Native.Nat.{ℕ, ◌≤◌}
use lib.Dec.{T, lit≤}
use Rattle.whole.specs.Text.{bytes}
use Rattle.letters.specs.Letters.{UtmRows, UpsRowsSouth, UpsRowsNorth, letters_of, place_of, letter_at, first_tile}
use Rattle.letters.specs.Search.{confirm, behind_of, skipped_of}
use Rattle.letters.specs.declared.Stretch.{Stretch}
use Rattle.letters.proofs.Confirm.{right, confirmed_is}
use Rattle.letters.proofs.Stretches.{guess, Is}
use Rattle.row_letters.specs.inner.Halves.{row_stretch}

utm_rows_right : T (right UtmRows (guess 0))
unfolding behind_of skipped_of letter_at
utm_rows_right = tt

pub utm_rows : (b : ℕ) → confirm (letters_of UtmRows) (guess 0 b) b ≡ place_of UtmRows b
utm_rows b = confirmed_is UtmRows (guess 0) utm_rows_right b

-- the rows of the south and of the north, one after the other
abbrev pub row_table : List ℕ
row_table = bytes "ABCDEFGHJKLMNPQRSTUVWXYZABCDEFGHJKLMNP"

pub rows_are : (north : Bool) → Is row_table guess (cond north UpsRowsNorth UpsRowsSouth) (row_stretch north)
unfolding row_stretch behind_of skipped_of letter_at first_tile
rows_are true = record { low = lit≤ tt; high = lit≤ tt; letters = refl; tile = refl; guessed = tt }
rows_are false = record { low = lit≤ tt; high = lit≤ tt; letters = refl; tile = refl; guessed = tt }

-- what stands for a hemisphere lies in the table
pub in_table : (north : Bool) (s : Stretch) → s ≡ row_stretch north → (s.start ≤ s.end) × (s.end ≤ 38)
in_table north s e = let i = rows_are north in rw e (i.low, i.high)
