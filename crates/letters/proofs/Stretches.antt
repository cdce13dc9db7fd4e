-- Guesses, and sets that are parts of a table: the law of all sets serves them. Assumes nothing.
use mathlib.Core.Path.{◌≡◌, refl}
use mathlib.Core.List.{List}
use Prim.Native.Nat.{ℕ, ◌+◌, ◌-◌, ◌≤◌}
use lib.Dec.{T}
use lib.ListN.{take, drop}
use Rattle.letters.specs.Letters.{LetterSet, letters_of, place_of, first_tile, tile_in}
use Rattle.letters.specs.declared.Stretch.{Stretch}
use Rattle.letters.specs.Search.{confirm, behind_of, skipped_of, skipped_in_columns, skipped_in_bands}
use Rattle.letters.proofs.Confirm.{right, confirmed_is}
use Rattle.std.specs.Prelude.{Option, Some, None, option_map}

-- among all letters but I and O, among the UPS columns, among the UPS bands
abbrev pub guess : ℕ → ℕ → ℕ
guess first b = behind_of b (skipped_of b) first

abbrev pub column_guess : ℕ → ℕ → ℕ
column_guess first b = behind_of b (skipped_in_columns b) first

abbrev pub band_guess : ℕ → ℕ
band_guess b = behind_of b (skipped_in_bands b) 0

-- a stretch of a table
abbrev pub letters_from : List ℕ → Stretch → List ℕ
letters_from table s = take (s.end - s.start) (drop s.start table)

-- what a stretch of a table is to be: the set's letters, within the table, from the set's first tile
pub record Is (table : List ℕ) (g : ℕ → ℕ → ℕ) (set : LetterSet) (s : Stretch) : Type 0 where
  pub low : s.start ≤ s.end
  pub high : s.end ≤ 38
  pub letters : letters_from table s ≡ letters_of set
  pub tile : s.tile ≡ first_tile set
  pub guessed : T (right set (g s.first))

-- so a guess in the stretch is confirmed as in the set
pub in_stretch : (table : List ℕ) (g : ℕ → ℕ → ℕ) (set : LetterSet) (s : Stretch) (b : ℕ) → Is table g set s → confirm (letters_from table s) (g s.first b) b ≡ place_of set b
in_stretch table g set s b i = rw i.letters (confirmed_is set (g s.first) i.guessed b)

-- and its tile is counted from the stretch's, which is the set's first
tiled : (set : LetterSet) (t b : ℕ) (p : Option ℕ) → t ≡ first_tile set → place_of set b ≡ p → option_map (λ k. t + k) p ≡ tile_in set b
unfolding tile_in
tiled set t b None e f = rw f
tiled set t b (Some k) e f = rw (f, e)

pub in_tiles : (table : List ℕ) (g : ℕ → ℕ → ℕ) (set : LetterSet) (s : Stretch) (b : ℕ) → Is table g set s → option_map (λ k. s.tile + k) (confirm (letters_from table s) (g s.first b) b) ≡ tile_in set b
in_tiles table g set s b i = rw (in_stretch table g set s b i) (tiled set s.tile b (place_of set b) i.tile refl)
