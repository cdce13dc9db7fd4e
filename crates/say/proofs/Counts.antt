-- The digits of `io::decimal` are the numeral of the listing, and stand behind a space. Assumes nothing.
use mathlib.Core.Path.{◌≡◌}
use mathlib.Core.List.{List, ◌∷◌, ◌++◌}
use Prim.Native.Nat.{ℕ, zero, suc, ◌+◌, ◌-◌, ◌*◌, ◌/◌, ◌%◌, ◌^◌, ◌≤◌, ◌<◌}
use native.Mathlib.Nat.{pow-succ'}
use native.Mathlib.Numerals.{add-one}
use native.Mathlib.Omega.{arith}
use borrow.Author.Tests.{lt-ltb, le-ltb}
use lib.ListN.{length, take}
use lib.Seq.{length-take-le, take_at}
use Rattle.whole.proofs.Powers.{ten_pos}
use Rattle.io.specs.Digits.{hex_digit_ascii, last_digits, IsDigitCount}
use Rattle.listing.specs.Numerals.{numeral, decimal}
use Rattle.say.specs.Put.{count_text}

glyph_is : (d : ℕ) → d < 10 → hex_digit_ascii d ≡ 48 + d
glyph_is d h = rw (lt-ltb d 10 h)

-- a number of exactly k + 1 digits
spelled : (k j n : ℕ) → k ≤ j → n < 10 ^ suc k → (0 < k → 10 ^ k ≤ n) → last_digits 10 (suc k) n ≡ numeral (suc j) n
unfolding numeral
spelled zero j n l h g =
    let small : n < 10 = omega arith in
    let same : n % 10 ≡ n = omega arith in
    rw (same, glyph_is n small, lt-ltb n 10 small)
spelled (suc k) zero n l h g = absurd (omega arith)
spelled (suc k) (suc j) n l h g =
    let p = ten_pos k in
    let most : n < 10 * 10 ^ suc k = rw pow-succ' at h in
    let least : 10 * 10 ^ k ≤ n = rw (pow-succ' 10 k) at (g (omega arith)) in
    rw (le-ltb n 10 (omega arith), spelled k j (n / 10) (omega arith) (omega arith) (λ x. omega arith), glyph_is (n % 10) (omega arith))

pub decimal_is : (k n : ℕ) → IsDigitCount 10 1 n k → k ≤ 20 → last_digits 10 k n ≡ decimal n
decimal_is zero n few le = absurd (omega (arith, few.0))
decimal_is (suc k) n few le =
    let e : suc k - 1 ≡ k = omega arith in
    spelled k 19 n (omega arith) few.1 (λ x. rw e at (few.2 (omega arith)))

-- ---- a first byte, and others that were copied behind it

-- behind a space the digits come first in what was copied
pub text_is : (k n : ℕ) (buffer part rest : List ℕ) → IsDigitCount 10 1 n k → k ≤ 20 → k ≤ length buffer → take k buffer ≡ last_digits 10 k n
    → part ≡ take k buffer → take (k + 1) (32 ∷ (part ++ rest)) ≡ count_text n
unfolding count_text
text_is k n buffer part rest few small le is has =
    let first = take_at (take k buffer) rest k (length-take-le k buffer le) in
    rw (add-one, has, first, is, decimal_is k n few small)
