-- The eight bytes of a text from a place on, and the kinds of bytes that a text is searched for. Assumes nothing.
use mathlib.Core.Path.{◌≡◌, refl, sym, ap}
use mathlib.Core.Bool.{Bool, true, false, not, ◌&&◌, ◌||◌}
use mathlib.Core.List.{List, [], ◌∷◌}
use Prim.Native.Nat.{ℕ, zero, suc, ◌+◌}
use native.Mathlib.Nat.{zero-add, add-zero, add-suc, suc-add}
use native.Mathlib.Omega.{arith}
use borrow.Author.Tests.{le-leb, lt-leb, leb-true, leb-false}
use lib.Bits.{bit_or}
use Rattle.std.proofs.lemmas.Nat.{le_or_l, le_or_r, or_lt}
use lib.ListN.{length, get_or}
use Rattle.whole.proofs.Table.{values}
use Rattle.words.specs.Words.{word_of}
use Rattle.std.specs.Int.{w64, from_le_bytes}
use Rattle.std.specs.List.{list_any}
use Rattle.words.specs.Bytes.{high, has_high, is_digit, all_digits}
use Rattle.words.specs.inner.Flags.{no_digit}

pub high_is : (bs : List ℕ) → has_high bs ≡ list_any high bs
unfolding has_high
high_is [] = refl
high_is (b ∷ bs) = rw (high_is bs)

-- all are digits exactly if none is another byte
both : (a b : Bool) → (a && not b) ≡ not (not a || b)
both true b = refl
both false b = refl

pub digits_are : (bs : List ℕ) → all_digits bs ≡ not (list_any no_digit bs)
unfolding all_digits
digits_are [] = refl
digits_are (b ∷ bs) = rw (digits_are bs) (both (is_digit b) (list_any no_digit bs))

-- two bytes together are high exactly if one of them is
together_by : (a b : ℕ) (t u : Bool) → high a ≡ t → high b ≡ u → high (bit_or a b) ≡ (t || u)
together_by a b true u e f = le-leb 128 (bit_or a b) (omega (arith, leb-true 128 a e, le_or_l a b))
together_by a b false true e f = le-leb 128 (bit_or a b) (omega (arith, leb-true 128 b f, le_or_r a b))
together_by a b false false e f = lt-leb 128 (bit_or a b) (or_lt 7 a b (leb-false 128 a e) (leb-false 128 b f))

pub together : (a b : ℕ) → high (bit_or a b) ≡ (high a || high b)
together a b = together_by a b (high a) (high b) refl refl

-- a list by its elements
listed : (s : List ℕ) (f : ℕ → ℕ) (i n : ℕ) → ((k : ℕ) → get_or s k 0 ≡ f (i + k)) → length s ≡ n → s ≡ values f i n
listed [] f i zero h l = refl
listed [] f i (suc n) h l = absurd (omega arith)
listed (x ∷ s) f i zero h l = absurd (omega arith)
listed (x ∷ s) f i (suc n) h l =
    rw (sym (rw add-zero at (h 0)), sym (listed s f (suc i) n (λ k. rw suc-add (rw add-suc at (h (suc k)))) (omega arith)))

pub eight_are : (s : List ℕ) → length s ≡ 8 → s ≡ values (λ i. get_or s i 0) 0 8
eight_are s l = listed s (λ i. get_or s i 0) 0 8 (λ k. rw zero-add) l

-- the number of eight bytes, as the library has it
pub word_is : (s : List ℕ) → length s ≡ 8 → from_le_bytes w64 s ≡ word_of s
unfolding word_of
word_is s l = let e = ap word_of (eight_are s l) in omega (arith, e)
