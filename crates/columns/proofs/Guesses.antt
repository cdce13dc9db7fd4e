-- The guesses are right of the columns: one computation each, and the law of `letters` does the rest. Assumes nothing.
use mathlib.Core.Path.{◌≡◌, refl}
use mathlib.Core.List.{List, [], ◌∷◌}
use mathlib.Core.Bool.{Bool, true, false, cond}
use Prim.Native.Nat.{ℕ, ◌*◌, ◌<◌, ◌≤◌}
use lib.Dec.{T, eqb, lit≤}
use lib.ListN.{get_or}
use Rattle.whole.specs.Text.{bytes}
use Rattle.whole.proofs.Table.{row, alike, all, each}
use Rattle.letters.specs.Letters.{UpsBands, UtmColumns0, UtmColumns1, UtmColumns2, UpsColumnsA, UpsColumnsB, UpsColumnsY, UpsColumnsZ, NoLetters, letters_of, place_from, place_of, by_place, letter_at, first_tile}
use Rattle.letters.specs.Search.{confirm, behind_of, skipped_of, skipped_low, skipped_high, skipped_in_columns}
use Rattle.letters.specs.inner.Stretches.{stretch}
use Rattle.letters.specs.declared.Stretch.{Stretch}
use Rattle.letters.proofs.Confirm.{right, confirmed_is}
use Rattle.letters.proofs.Stretches.{guess, column_guess, Is}
use Rattle.columns.specs.Columns.{utm_columns, ups_columns}
use Rattle.columns.specs.inner.Stretches.{column_stretch}

-- the columns of each third zone
utm_columns_right : T (all 3 (λ m. right (utm_columns m) (guess (8 * m))))
unfolding behind_of skipped_of letter_at utm_columns
utm_columns_right = tt

pub utm_columns_lem : (m b : ℕ) → m < 3 → confirm (letters_of (utm_columns m)) (guess (8 * m) b) b ≡ place_of (utm_columns m) b
utm_columns_lem m b h = confirmed_is (utm_columns m) (guess (8 * m)) (each 3 (λ m. right (utm_columns m) (guess (8 * m))) utm_columns_right m h) b

-- the columns of A, B, Y and Z, one after the other
abbrev pub column_table : List ℕ
column_table = bytes "JKLPQRSTUXYZABCFGHJKLPQRRSTUXYZABCFGHJ"

columns_by : (t u v w : Bool) → Is column_table column_guess (cond t UpsColumnsA (cond u UpsColumnsB (cond v UpsColumnsY (cond w UpsColumnsZ NoLetters)))) (cond t (stretch 0 12 6 8) (cond u (stretch 12 24 0 20) (cond v (stretch 24 31 11 13) (cond w (stretch 31 38 0 20) (stretch 0 0 0 0)))))
unfolding behind_of skipped_in_columns skipped_low skipped_high letter_at first_tile
columns_by true u v w = record { low = lit≤ tt; high = lit≤ tt; letters = refl; tile = refl; guessed = tt }
columns_by false true v w = record { low = lit≤ tt; high = lit≤ tt; letters = refl; tile = refl; guessed = tt }
columns_by false false true w = record { low = lit≤ tt; high = lit≤ tt; letters = refl; tile = refl; guessed = tt }
columns_by false false false true = record { low = lit≤ tt; high = lit≤ tt; letters = refl; tile = refl; guessed = tt }
columns_by false false false false = record { low = lit≤ tt; high = lit≤ tt; letters = refl; tile = refl; guessed = tt }

pub columns_are : (b : ℕ) → Is column_table column_guess (ups_columns b) (column_stretch b)
unfolding ups_columns column_stretch
columns_are b = columns_by (eqb b 65) (eqb b 66) (eqb b 89) (eqb b 90)

-- what stands for a band lies in the table
pub in_table : (b : ℕ) (s : Stretch) → s ≡ column_stretch b → (s.start ≤ s.end) × (s.end ≤ 38)
in_table b s e = let i = columns_are b in rw e (i.low, i.high)

-- the same by the band's place, as the table has it
pub stretch_of : (b : ℕ) → b < 256 → column_stretch b ≡ by_place (place_of UpsBands b) (stretch 0 0 0 0) (λ k. get_or (stretch 0 12 6 8 ∷ stretch 12 24 0 20 ∷ stretch 24 31 11 13 ∷ stretch 31 38 0 20 ∷ []) k (stretch 0 0 0 0))
unfolding column_stretch place_of place_from
stretch_of b h =
    alike column_stretch (λ b. by_place (place_of UpsBands b) (stretch 0 0 0 0) (λ k. get_or (stretch 0 12 6 8 ∷ stretch 12 24 0 20 ∷ stretch 24 31 11 13 ∷ stretch 31 38 0 20 ∷ []) k (stretch 0 0 0 0))) 256 refl (stretch 0 0 0 0) b h

-- all three sets of UTM columns begin at tile 1, and the table has them in order
utm_tiles : (t u : Bool) → 1 ≡ first_tile (cond t UtmColumns0 (cond u UtmColumns1 UtmColumns2))
unfolding first_tile
utm_tiles true u = refl
utm_tiles false true = refl
utm_tiles false false = refl

pub utm_tile : (m : ℕ) → 1 ≡ first_tile (utm_columns m)
unfolding utm_columns
utm_tile m = utm_tiles (eqb m 0) (eqb m 1)

abbrev pub utm_table : List (List ℕ)
utm_table = letters_of UtmColumns0 ∷ letters_of UtmColumns1 ∷ letters_of UtmColumns2 ∷ []

pub utm_letters : (m : ℕ) → m < 3 → get_or utm_table m [] ≡ letters_of (utm_columns m)
unfolding utm_columns
utm_letters m h = row (λ m. letters_of (utm_columns m)) _ 3 refl [] m h
