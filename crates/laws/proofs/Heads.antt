-- The zone and the band that the writer puts in front of a text are the ones that the reader finds there. Assumes nothing.
use mathlib.Core.Path.{◌≡◌, refl, ◌∙◌}
use mathlib.Core.Bool.{Bool, true, false, cond}
use mathlib.Core.List.{List, [], ◌∷◌, ◌++◌}
use Prim.Native.Nat.{ℕ, ◌+◌, ◌≤◌, ◌<◌}
use native.Mathlib.Omega.{arith}
use borrow.Author.Tests.{leb-true, leb-false, ltb-true, ltb-false, lt-ltb, le-ltb, lt-leb, ne_eqb}
use lib.Dec.{leb, ltb}
use lib.IntN.{ℤ, pos}
use lib.ListN.{length, get_or, drop, length-append}
use lib.Seq.{append_snoc, get_or-append_seam, drop-append-add}
use Rattle.whole.proofs.Parts.{clash}
use Rattle.letters.specs.Letters.{LetterSet, NoLetters, UtmBands, UpsBands, capital_of, place_from, place_of}
use Rattle.bands.specs.declared.Grid.{Grid}
use Rattle.bands.specs.declared.Grid.TheVariants.{Utm, Ups, NoZone}
use Rattle.bands.specs.Bands.{grid_of, by_grid, bands_of}
use Rattle.letters.proofs.Laws.{no_capital}
use Rattle.words.specs.Bytes.{high, has_high, is_digit, all_digits}
use Rattle.runs.specs.Runs.{value_from, value_of, lead_of, last_digits}
use Rattle.words.proofs.Laws.{digit_range, all_head}
use Rattle.runs.proofs.Decimals.{digits_length, digits_all, digits_value, low_digits, leading}
use Rattle.head.specs.Head.{inv_letters, is_inv, zone_wrong, head_of}
use Rattle.writer.specs.Text.{head_text}
use Rattle.std.specs.Prelude.{Some, None, Ok}

-- ---- every letter of a set is a capital

module _ (set : LetterSet) (b k : ℕ) (e : place_of set b ≡ Some k) where
  -- from A to Z
  range_by : (s t : Bool) → leb 65 b ≡ s → leb b 90 ≡ t → (65 ≤ b) × (b ≤ 90)
  range_by true true p q = (leb-true 65 b p, leb-true b 90 q)
  range_by true false p q = let n = no_capital set b (λ h g. omega (arith, leb-false b 90 q)) in clash (cc)
  range_by false t p q = let n = no_capital set b (λ h g. omega (arith, leb-false 65 b p)) in clash (cc)

  range : (65 ≤ b) × (b ≤ 90)
  range = range_by (leb 65 b) (leb b 90) refl refl

  -- it counts as itself, is no digit, and no high byte
  pub capital_is : capital_of b ≡ b
  unfolding capital_of
  capital_is = let r = range in rw (lt-ltb b 97 (omega arith))

  pub no_digit : is_digit b ≡ false
  unfolding is_digit
  no_digit = let r = range in rw (le-ltb b 48 (omega arith), lt-leb b 57 (omega arith))

  pub not_high : high b ≡ false
  not_high = let r = range in lt-leb 128 b (omega arith)

-- no band is an I
no_i_by : (g : Grid) → place_of (by_grid g UtmBands UpsBands NoLetters) 73 ≡ None
unfolding place_of place_from
no_i_by Utm = refl
no_i_by Ups = refl
no_i_by NoZone = refl

no_i : (zone : ℤ) (band k : ℕ) → place_of (bands_of zone) band ≡ Some k → band ≡ 73 → ⊥
unfolding bands_of
no_i zone band k e i = let n = no_i_by (grid_of zone) in let m = rw i at e in clash (cc)

-- ---- a text of digits, a band and a rest

-- what does not start with an I is not INV
not_inv : (s : List ℕ) → (capital_of (get_or s 0 0) ≡ 73 → ⊥) → is_inv s ≡ false
unfolding is_inv inv_letters
not_inv s h = rw (ne_eqb (capital_of (get_or s 0 0)) 73 h) (neither (ltb (length s) 3))
  where
    neither : (t : Bool) → cond t false false ≡ false
    neither true = refl
    neither false = refl

-- a digit counts as no I
digit_no_i : (d : ℕ) → is_digit d ≡ true → capital_of d ≡ 73 → ⊥
unfolding capital_of
digit_no_i d t e =
    let r = digit_range d t in
    let f = rw (lt-ltb d 97 (omega arith)) at e in
    omega arith

module _ (zs : List ℕ) (z band k : ℕ) (rest : List ℕ)
    (digits : all_digits zs ≡ true) (value : value_of zs ≡ z) (few : length zs ≤ 2) (most : z ≤ 60)
    (right : zone_wrong (record { count = length zs; value = z }) ≡ false)
    (place : place_of (bands_of (pos z)) band ≡ Some k) (low : has_high rest ≡ false) where
  -- the leading digits end at the band
  lead_is : lead_of (zs ++ (band ∷ rest)) ≡ record { count = length zs; value = z }
  unfolding lead_of
  lead_is = rw (leading zs band rest digits (no_digit (bands_of (pos z)) band k place), value)

  -- no byte is high
  none_high : has_high (zs ++ (band ∷ rest)) ≡ false
  unfolding has_high
  none_high = low_digits zs (band ∷ rest) digits ∙ rw (not_high (bands_of (pos z)) band k place, low)

  -- the first letter is no I
  first_by : (ds : List ℕ) → all_digits ds ≡ true → capital_of (get_or (ds ++ (band ∷ rest)) 0 0) ≡ 73 → ⊥
  first_by [] t e = let f = rw (capital_is (bands_of (pos z)) band k place) at e in no_i (pos z) band k place f
  first_by (d ∷ ds) t e = digit_no_i d (all_head d ds t) e

  -- so the head is found
  starts_at : head_of (zs ++ (band ∷ rest)) ≡ Ok (record { zone = pos z; band = band; next = length zs + 1 })
  unfolding head_of
  starts_at =
      let more : length zs < length (zs ++ (band ∷ rest)) = simp length-append (omega arith) in
      rw (
        none_high,
        not_inv (zs ++ (band ∷ rest)) (first_by zs digits),
        lead_is,
        right,
        le-ltb 2 (length zs) few,
        lt-leb (length (zs ++ (band ∷ rest))) (length zs) more,
        get_or-append_seam zs band rest 0,
        capital_is (bands_of (pos z)) band k place,
        place,
      )

-- ---- the zone's digits

-- none for UPS, two for UTM
abbrev zone_digits : ℕ → List ℕ
zone_digits z = cond (ltb z 1) [] (last_digits 2 z)

-- what the head asks of them
record Zone (z : ℕ) (zs : List ℕ) : Type 0 where
  pub digits : all_digits zs ≡ true
  pub value : value_of zs ≡ z
  pub few : length zs ≤ 2
  pub right : zone_wrong (record { count = length zs; value = z }) ≡ false

zone_by : (z : ℕ) → z ≤ 60 → (t : Bool) → ltb z 1 ≡ t → Zone z (cond t [] (last_digits 2 z))
unfolding all_digits value_from zone_wrong
zone_by z h true e = let k = ltb-true z 1 e in record { digits = refl; value = omega arith; few = omega arith; right = refl }
zone_by z h false e =
    let k = ltb-false z 1 e in
    let l = digits_length 2 z in
    record {
      digits = digits_all 2 z;
      value = digits_value 2 z (omega arith);
      few = omega arith;
      right = rw (l, ne_eqb z 0 (λ q. omega arith), le-ltb 60 z h);
    }

-- in front of a rest
text_by : (z band : ℕ) (rest : List ℕ) (t : Bool) → cond t (band ∷ []) (last_digits 2 z ++ (band ∷ [])) ++ rest ≡ cond t [] (last_digits 2 z) ++ (band ∷ rest)
text_by z band rest true = refl
text_by z band rest false = append_snoc (last_digits 2 z) band rest

text_is : (z band : ℕ) (rest : List ℕ) → head_text (pos z) band ++ rest ≡ zone_digits z ++ (band ∷ rest)
unfolding head_text
text_is z band rest = text_by z band rest (ltb z 1)

-- ---- so

-- a text begins with a zone, a band of it, and goes on with a rest
pub record Starts (s : List ℕ) (zone : ℤ) (band : ℕ) (rest : List ℕ) : Type 0 where
  pub next : ℕ
  pub is_head : head_of s ≡ Ok (record { zone = zone; band = band; next = next })
  pub after : drop next s ≡ rest

-- what the writer puts in front of a rest begins so
pub starts : (z band k : ℕ) (rest : List ℕ) → z ≤ 60 → place_of (bands_of (pos z)) band ≡ Some k → has_high rest ≡ false → Starts (head_text (pos z) band ++ rest) (pos z) band rest
starts z band k rest h place low =
    let zs = zone_digits z in
    let o = zone_by z h (ltb z 1) refl in
    record {
      next = length zs + 1;
      is_head = rw (text_is z band rest) (starts_at zs z band k rest o.digits o.value o.few h o.right place low);
      after = rw (text_is z band rest) (drop-append-add zs (band ∷ rest) 1);
    }
