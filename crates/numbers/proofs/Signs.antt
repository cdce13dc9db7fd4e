-- The answer's sign: it is below 0 exactly if the call refuses, so that 0 or more is always an answer. Assumes nothing.
use mathlib.Core.Path.{◌≡◌, refl, sym, ap}
use mathlib.Core.Logic.{◌↔◌}
use mathlib.Core.Bool.{Bool, true, false, cond}
use mathlib.Core.List.{List}
use Prim.Native.Nat.{ℕ, zero, suc, ◌+◌, ◌/◌, ◌≤◌, ◌<◌}
use native.Mathlib.Omega.{arith}
use borrow.Author.Tests.{le-ltb}
use lib.Dec.{lit<}
use lib.IntN.{ℤ, pos, negsuc, ◌+ℤ◌, ◌*ℤ◌}
use lib.Signed.{lt_z, le_z, ◌≤ℤ◌}
use Rattle.whole.specs.Floor.{floor_div, floor_mod}
use Rattle.whole.proofs.Parts.{up, dn, clash, lt_no, le_no, add_parts, sub_parts, up_mul, dn_mul, ≤ℤ-parts}
use Rattle.whole.proofs.Floor.{div_pos, up_floor, dn_floor}
use Rattle.whole.proofs.Signed.{is_count}
use Rattle.whole.proofs.Small.{at_least, at_most}
use Rattle.rows.specs.Resolve.{resolve}
use Rattle.rows.proofs.Theorems.{in_rows, answered}
use Rattle.zones.specs.Zones.{degrees, band_at, band_of, turned, plain, norway, arctic, svalbard, zone_at, zone_of}
use Rattle.ranges.specs.Ranges.{utm_check}
use Rattle.ranges.specs.Edges.{mgrs_check}
use Rattle.reader.specs.Read.{read_of}
use Rattle.reader.specs.Metres.{metres_read}
use Rattle.writer.specs.Write.{write_of}
use Rattle.squares.specs.Shorten.{short_of}
use Rattle.squares.specs.Covers.{covers_of}
use Rattle.numbers.specs.Numbers.{minus, answer_number, kind_number, read_number, metres_number, length_number, covers_number, mgrs_number, utm_number, zone_number, row_number}
use Rattle.refusals.proofs.Refusals.{either}
use Rattle.std.specs.Prelude.{Option, Some, None, Result, Ok, Err, is_err}
use Rattle.rules.specs.Rules.{number_of}
use Rattle.rules.specs.declared.Refusal.TheVariants.{LatitudeOut}
use Rattle.rules.proofs.Tags.{positive}
use Rattle.rules.specs.declared.Refusal.{Refusal}
use Rattle.reader.specs.declared.Reading.{Reading}
use Rattle.reader.specs.declared.Reading.TheVariants.{Square, Bare}

-- minus a rule's number is below 0, a count is not
below : (n : ℕ) → 1 ≤ n → lt_z (minus n) (pos 0) ≡ true
unfolding minus
below zero h = absurd (omega arith)
below (suc n) h = refl

not_below : (n : ℕ) → lt_z (pos n) (pos 0) ≡ false
not_below n = le-ltb n 0 (omega arith)

-- one law for every call: what is no refusal is not below 0, so what is below 0 is one
sign : {A : Type 0} (of : A → ℤ) (a : Result A Refusal) → ((x : A) → a ≡ Ok x → lt_z (of x) (pos 0) ≡ false) → lt_z (answer_number of a) (pos 0) ≡ is_err a
sign of (Ok x) h = h x refl
sign of (Err r) h = below (number_of r) (positive r)

-- ---- reading

kind_sign : {A : Type 0} (x : Reading A) → lt_z (kind_number x) (pos 0) ≡ false
kind_sign (Square q) = refl
kind_sign (Bare q) = refl

pub read_sign : (s : List ℕ) → lt_z (read_number (read_of s)) (pos 0) ≡ is_err (read_of s)
read_sign s = sign kind_number (read_of s) (λ x e. kind_sign x)

pub read_metres_sign : (s : List ℕ) → lt_z (metres_number (metres_read s)) (pos 0) ≡ is_err (metres_read s)
read_metres_sign s = sign kind_number (metres_read s) (λ x e. kind_sign x)

-- ---- writing and shortening

pub write_sign : (zone : ℤ) (north : Bool) (band : ℕ) (p e n : ℤ) (m : ℕ)
    → lt_z (length_number (write_of zone north band p e n m)) (pos 0) ≡ is_err (write_of zone north band p e n m)
write_sign zone north band p e n m = sign pos (write_of zone north band p e n m) (λ k x. not_below k)

pub shorten_sign : (s : List ℕ) (q : ℤ) (m : ℕ) → lt_z (length_number (short_of s q m)) (pos 0) ≡ is_err (short_of s q m)
shorten_sign s q m = sign pos (short_of s q m) (λ k x. not_below k)

-- ---- covering and the range tests

yes_sign : (t : Bool) → lt_z (cond t (pos 1) (pos 0)) (pos 0) ≡ false
yes_sign true = refl
yes_sign false = refl

pub covers_sign : (s t : List ℕ) → lt_z (covers_number (covers_of s t)) (pos 0) ≡ is_err (covers_of s t)
covers_sign s t = sign _ (covers_of s t) (λ x e. yes_sign x)

module _ (zone : ℤ) (north : Bool) (e n : ℤ) where
  pub mgrs_check_sign : lt_z (mgrs_number (mgrs_check zone north e n)) (pos 0) ≡ is_err (mgrs_check zone north e n)
  mgrs_check_sign = sign _ (mgrs_check zone north e n) (λ x e. refl)

  pub utm_check_sign : lt_z (utm_number (utm_check zone north e n)) (pos 0) ≡ is_err (utm_check zone north e n)
  utm_check_sign = sign _ (utm_check zone north e n) (λ x e. refl)

-- ---- the standard zone

-- a count is not below 0, and neither is the quotient of what is not
count : (n : ℕ) → dn (pos n) ≤ up (pos n)
unfolding up dn
count n = omega arith

quotient : (z : ℤ) {d : ℕ} → 0 < d → dn z ≤ up z → dn (floor_div z d) ≤ up (floor_div z d)
quotient z {d} p h = rw (is_count z h, div_pos (up z) p) (count (up z / d))

turned_from : (d : ℤ) → dn (turned d) ≤ up (turned d) + 180
unfolding turned up dn
turned_from d = let s = sub_parts (pos (floor_mod (d +ℤ pos 180) 360)) (pos 180) in omega arith

module _ (d : ℤ) (h : dn d ≤ up d + 180) where
  plain_up : dn (plain d) ≤ up (plain d)
  unfolding plain up dn
  plain_up = let a = add_parts d (pos 186) in quotient (d +ℤ pos 186) (lit< tt) (omega arith)

  svalbard_up : dn (svalbard d) ≤ up (svalbard d)
  unfolding svalbard up dn
  svalbard_up =
      let f = floor_div (d +ℤ pos 183) 12 in
      let a = add_parts d (pos 183) in
      let q = quotient (d +ℤ pos 183) {d = 12} (lit< tt) (omega arith) in
      let u = up_mul f 2 in
      let v = dn_mul f 2 in
      let b = add_parts (f *ℤ pos 2) (pos 1) in
      omega arith

  zone_up : (b : ℤ) → dn (zone_at b d) ≤ up (zone_at b d)
  unfolding zone_at
  zone_up b = by (norway b (plain d) d) (arctic b d)
    where
      by : (t u : Bool) → dn (cond t (pos 32) (cond u (svalbard d) (plain d))) ≤ up (cond t (pos 32) (cond u (svalbard d) (plain d)))
      by true u = count 32
      by false true = svalbard_up
      by false false = plain_up

module _ (latitude longitude : ℤ) where
  in_zone : (z y : ℤ) → dn y ≤ up y → ◌≡◌ {A = Result ℤ Refusal} (Ok y) (Ok z) → dn z ≤ up z
  in_zone z y h e = let f : y ≡ z = cc in rw (sym f) h

  no_zone : (n : Refusal) (z : ℤ) → ◌≡◌ {A = Result ℤ Refusal} (Err n) (Ok z) → dn z ≤ up z
  no_zone n z e = clash (cc)

  -- what is answered is not below 0
  zone_from : (z : ℤ) → zone_of latitude longitude ≡ Ok z → dn z ≤ up z
  unfolding zone_of
  zone_from z e =
      let d = turned (degrees longitude) in
      either (lt_z latitude (negsuc 89999999999)) _ _ _ e (no_zone LatitudeOut z)
      (λ e. either (lt_z (pos 90000000000) latitude) _ _ _ e (no_zone LatitudeOut z)
      (λ e. either (lt_z latitude (negsuc 79999999999)) _ _ _ e (in_zone z (pos 0) (count 0))
      (λ e. either (le_z (pos 84000000000) latitude) _ _ _ e (in_zone z (pos 0) (count 0))
      (in_zone z (zone_at (band_of latitude) d) (zone_up d (turned_from (degrees longitude)) (band_of latitude))))))

  pub standard_zone_sign : lt_z (zone_number (zone_of latitude longitude)) (pos 0) ≡ is_err (zone_of latitude longitude)
  standard_zone_sign = sign _ (zone_of latitude longitude) (λ z e. rw (is_count z (zone_from z e)) (not_below (up z)))

-- ---- what is never refused: bands and rows

band_by : (d : ℤ) (t u : Bool) → lt_z d (negsuc 71) ≡ t → le_z (pos 72) d ≡ u
    → (negsuc 9 ≤ℤ cond t (negsuc 9) (cond u (pos 9) (floor_div d 8))) × (cond t (negsuc 9) (cond u (pos 9) (floor_div d 8)) ≤ℤ pos 9)
unfolding up dn
band_by d true u p q = (record { le = tt }, record { le = tt })
band_by d false true p q = (record { le = tt }, record { le = tt })
band_by d false false p q =
    let low = lt_no d (negsuc 71) p in
    let high = le_no (pos 72) d q in
    let u = up_floor d {d = 8} (lit< tt) in
    let v = dn_floor d {d = 8} (lit< tt) in
    (at_least 9 (floor_div d 8) (omega arith), at_most 9 (floor_div d 8) (omega arith))

-- a band is one of -10..9
pub latitude_band_range : (latitude : ℤ) → (negsuc 9 ≤ℤ band_of latitude) × (band_of latitude ≤ℤ pos 9)
unfolding band_of band_at
latitude_band_range latitude =
    let d = degrees latitude in
    band_by d (lt_z d (negsuc 71)) (le_z (pos 72) d) refl refl

-- 100 is no row: it is answered exactly where there is none
row_by : (b : ℤ) (c l : ℕ) (a : Option ℤ) → resolve 0 b c l ≡ a → row_number a ≡ pos 100 → a ≡ None
unfolding up dn
row_by b c l None e x = refl
row_by b c l (Some found) e x =
    let r = (in_rows b c found (answered b c 0 l found e).0).1 in
    let h = ≤ℤ-parts found (pos 94) r in
    absurd (omega (arith, ap up x, ap dn x))

pub utm_row_none : (b : ℤ) (c l : ℕ) → (row_number (resolve 0 b c l) ≡ pos 100) ↔ (resolve 0 b c l ≡ None)
utm_row_none b c l = (row_by b c l (resolve 0 b c l) refl, ap row_number)
