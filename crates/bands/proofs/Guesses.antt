-- The guesses are right of the bands: one computation each, and the law of `letters` does the rest. Assumes nothing.
use mathlib.Core.Path.{◌≡◌}
use Prim.Native.Nat.{ℕ}
use lib.Dec.{T}
use Rattle.letters.specs.Letters.{UtmBands, UpsBands, letters_of, place_of, letter_at}
use Rattle.letters.specs.Search.{confirm, behind_of, skipped_of, skipped_in_bands}
use Rattle.letters.proofs.Confirm.{right, confirmed_is}
use Rattle.letters.proofs.Stretches.{guess, band_guess}

utm_bands_right : T (right UtmBands (guess 2))
unfolding behind_of skipped_of letter_at
utm_bands_right = tt

pub utm_bands : (b : ℕ) → confirm (letters_of UtmBands) (guess 2 b) b ≡ place_of UtmBands b
utm_bands b = confirmed_is UtmBands (guess 2) utm_bands_right b

ups_bands_right : T (right UpsBands band_guess)
unfolding behind_of skipped_in_bands letter_at
ups_bands_right = tt

pub ups_bands : (b : ℕ) → confirm (letters_of UpsBands) (band_guess b) b ≡ place_of UpsBands b
ups_bands b = confirmed_is UpsBands band_guess ups_bands_right b
