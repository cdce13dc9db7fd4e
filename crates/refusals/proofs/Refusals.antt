-- The numbers by which the calls refuse: each list below is proved of the definitions of document 01. At every test the
-- same law is cited: what follows from both branches follows from the choice. Assumes nothing.
use mathlib.Core.Path.{◌≡◌, refl, ap, subst, ◌∙◌}
use mathlib.Core.Bool.{Bool, true, false, cond, not}
use mathlib.Core.List.{List, [], ◌∷◌, ◌++◌}
use Prim.Native.Nat.{ℕ, ◌%◌, ◌≤◌}
use borrow.Author.Tests.{eqb-true}
use lib.Dec.{T, eqb, ltb, leb, leb→le}
use lib.IntN.{ℤ, pos, negsuc}
use lib.ListN.{length, drop}
use lib.Signed.{lt_z, le_z}
use Rattle.whole.specs.Compare.{outside}
use Rattle.whole.specs.Floor.{fold}
use Rattle.whole.proofs.Parts.{clash}
use Rattle.bands.specs.declared.Grid.{Grid}
use Rattle.bands.specs.declared.Grid.TheVariants.{Utm, Ups, NoZone}
use Rattle.letters.specs.Letters.{place_of, by_place, north_band}
use Rattle.bands.specs.Bands.{grid_of, by_grid, bands_of, band_number}
use Rattle.columns.specs.Columns.{columns_of}
use Rattle.row_letters.specs.RowLetters.{rows_of}
use Rattle.rows.specs.Letters.{shift_of}
use Rattle.rows.specs.Resolve.{resolve}
use Rattle.zones.specs.Zones.{zone_of}
use Rattle.position.specs.declared.Position.{Position}
use Rattle.ranges.specs.declared.Point.{Point}
use Rattle.position.specs.Units.{tiles, tile_at}
use Rattle.ranges.specs.Ranges.{eastings, northings, moved, outside_of, judged, verdict, in_range, utm_check}
use Rattle.ranges.specs.Edges.{moved_by, mgrs_check}
use Rattle.words.specs.Bytes.{has_high, all_digits}
use Rattle.runs.specs.Runs.{lead_of}
use Rattle.head.specs.declared.Head.{Head}
use Rattle.block.specs.declared.Tiles.{Tiles}
use Rattle.runs.specs.declared.Digits.{Digits}
use Rattle.head.specs.Head.{letter_in, is_inv, zone_wrong, head_of}
use Rattle.block.specs.Block.{on_row, utm_block, block_of}
use Rattle.runs.specs.Digits.{digits_of}
use Rattle.reader.specs.Read.{begun, blocked, halved, full_of, tail_of, read_of}
use Rattle.reader.specs.Metres.{in_metres, metres_read}
use Rattle.composer.specs.Compose.{fits, composed_at, reached, composed}
use Rattle.writer.specs.Text.{head_text, full_text}
use Rattle.writer.specs.Write.{fit_of, answered, write_of}
use Rattle.squares.specs.Shorten.{corner_written, shortened, short_of}
use Rattle.squares.specs.Covers.{covering, covers_of}
use Rattle.std.specs.Prelude.{Option, Some, None, Result, Ok, Err}
use Rattle.rules.specs.declared.Refusal.{Refusal}
use Rattle.rules.specs.Rules.{number_of}
use Rattle.rules.specs.declared.Refusal.TheVariants.{HighByte, Inv, WrongZone, LongZone, NoBand, WrongBand, LoneLetter, WrongColumn, WrongRow, NoAllowedRow, NoDigit, OddDigits, ManyDigits, NoSuchZone, WrongPrecision, EastingOut, NorthingOut, NoSuchBand, BandMisfits, ShortOutput, NotShortened, LatitudeOut}
use Rattle.reader.specs.declared.Reading.{Reading}
use Rattle.reader.specs.declared.Reading.TheVariants.{Square, Bare}
use Rattle.composer.specs.declared.Reference.{Reference}
use Rattle.composer.specs.declared.Reference.TheVariants.{Full, Bare as BareText}

-- ---- choices, and numbers of a list

-- what follows from both branches follows from the choice, and so of what a function makes of it
through : {A B Q : Type 0} (f : A → B) (t : Bool) (x y : A) (z : B) → f (cond t x y) ≡ z → (f x ≡ z → Q) → (f y ≡ z → Q) → Q
through f true x y z e p q = p e
through f false x y z e p q = q e

by_grid_lem : {A B Q : Type 0} (f : A → B) (g : Grid) (x y w : A) (z : B) → f (by_grid g x y w) ≡ z → (f x ≡ z → Q) → (f y ≡ z → Q) → (f w ≡ z → Q) → Q
by_grid_lem f Utm x y w z e p q r = p e
by_grid_lem f Ups x y w z e p q r = q e
by_grid_lem f NoZone x y w z e p q r = r e

module _ {A Q : Type 0} where
  pub either : (t : Bool) (x y z : A) → cond t x y ≡ z → (x ≡ z → Q) → (y ≡ z → Q) → Q
  either t x y z e p q = through (λ a. a) t x y z e p q

  -- where a letter has a place or none
  placed : (k : Option ℕ) (none : A) (at : ℕ → A) (z : A) → by_place k none at ≡ z → (none ≡ z → Q) → ((i : ℕ) → at i ≡ z → Q) → Q
  placed None none at z e p q = p e
  placed (Some i) none at z e p q = q i e

abbrev pub among : List ℕ → ℕ → Bool
among [] n = false
among (k ∷ ks) n = cond (eqb n k) true (among ks n)

-- n is one of the numbers of a list
abbrev pub Among : List ℕ → ℕ → Type 0
Among ks n = T (among ks n)

-- a refusal whose number is one of a list
abbrev pub Given : List ℕ → Refusal → Type 0
Given ks r = Among ks (number_of r)

-- a test's refusal is one of a list if its own number is; what is no refusal is none of another
at_rule : {A : Type 0} (ks : List ℕ) (k n : Refusal) → Given ks k → ◌≡◌ {A = Result A Refusal} (Err k) (Err n) → Given ks n
at_rule ks k n h e = subst (Given ks) (cc) h

no_rule : {A Q : Type 0} (a : A) (n : Refusal) → ◌≡◌ {A = Result A Refusal} (Ok a) (Err n) → Q
no_rule a n e = clash (cc)

abbrev pub every : (ℕ → Bool) → List ℕ → Bool
every P [] = true
every P (k ∷ ks) = cond (P k) (every P ks) false

-- what holds of every number of a list holds of one among them
chosen_by : (P : ℕ → Bool) (k n : ℕ) (a b t u : Bool) → eqb n k ≡ t → P k ≡ u → T (cond u a false) → T (cond t true b) → (T a → T b → T (P n)) → T (P n)
chosen_by P k n a b true true e f h m rest = rw (eqb-true n k e, f) tt
chosen_by P k n a b false true e f h m rest = rest h m
chosen_by P k n a b t false e f h m rest = absurd h

pub chosen : (P : ℕ → Bool) (ks : List ℕ) (n : ℕ) → T (every P ks) → Among ks n → T (P n)
chosen P [] n h m = absurd m
chosen P (k ∷ ks) n h m = chosen_by P k n (every P ks) (among ks n) (eqb n k) (P k) refl refl h m (chosen P ks n)

-- the numbers of a list are refusals: at most 22
pub up_to_22 : (ks : List ℕ) (n : ℕ) → T (every (λ k. leb k 22) ks) → Among ks n → n ≤ 22
up_to_22 ks n h m = leb→le n 22 (chosen (λ k. leb k 22) ks n h m)

-- ---- reading: 1 to 13

abbrev pub reading : List ℕ
reading = 1 ∷ 2 ∷ 3 ∷ 4 ∷ 5 ∷ 6 ∷ 7 ∷ 8 ∷ 9 ∷ 10 ∷ 11 ∷ 12 ∷ 13 ∷ []

module _ (n : Refusal) where
  head_in : (s : List ℕ) → head_of s ≡ Err n → Given reading n
  unfolding head_of
  head_in s e =
      let lead = lead_of s in
      either (has_high s) _ _ _ e (at_rule reading HighByte n tt)
      (λ e. either (is_inv s) _ _ _ e (at_rule reading Inv n tt)
      (λ e. either (zone_wrong lead) _ _ _ e (at_rule reading WrongZone n tt)
      (λ e. either (ltb 2 lead.count) _ _ _ e (at_rule reading LongZone n tt)
      (λ e. either (leb (length s) lead.count) _ _ _ e (at_rule reading NoBand n tt)
      (λ e. placed (place_of (bands_of (pos lead.value)) (letter_in s lead.count)) _ _ _ e (at_rule reading WrongBand n tt) (λ i. no_rule _ n))))))

  row_in : (easting : ℕ) (a : Option ℤ) → on_row easting a ≡ Err n → Given reading n
  row_in easting (Some found) e = no_rule _ n e
  row_in easting None e = at_rule reading NoAllowedRow n tt e

  block_in : (zone : ℤ) (band column row : ℕ) → block_of zone band column row ≡ Err n → Given reading n
  unfolding block_of utm_block
  block_in zone band column row e =
      placed (place_of (columns_of zone band) column) _ _ _ e (at_rule reading WrongColumn n tt)
      (λ c e. placed (place_of (rows_of zone (north_band band)) row) _ _ _ e (at_rule reading WrongRow n tt)
      (λ l e. either (lt_z zone (pos 1)) _ _ _ e (no_rule _ n) (row_in _ (resolve (shift_of zone) (band_number band) c l))))

  digits_in : (ds : List ℕ) → digits_of ds ≡ Err n → Given reading n
  unfolding digits_of
  digits_in ds e =
      either (not (all_digits ds)) _ _ _ e (at_rule reading NoDigit n tt)
      (λ e. either (eqb (length ds % 2) 1) _ _ _ e (at_rule reading OddDigits n tt)
      (λ e. either (ltb 22 (length ds)) _ _ _ e (at_rule reading ManyDigits n tt) (no_rule _ n)))

  -- by what the block and the digits are
  full_by : (zone : ℤ) (band column row : ℕ) (ds : List ℕ) (square : Tiles → Digits → Position) (b : Result Tiles Refusal) (d : Result Digits Refusal)
      → block_of zone band column row ≡ b → digits_of ds ≡ d → blocked b (λ tiles. halved d (λ x. Ok (Square (square tiles x)))) ≡ Err n → Given reading n
  full_by zone band column row ds square (Err j) d p r e = block_in zone band column row (p ∙ ap Err (cc))
  full_by zone band column row ds square (Ok tiles) (Err j) p r e = digits_in ds (r ∙ ap Err (cc))
  full_by zone band column row ds square (Ok tiles) (Ok d) p r e = clash (cc)

  tail_in : (zone : ℤ) (band : ℕ) (rest : List ℕ) → tail_of zone band rest ≡ Err n → Given reading n
  unfolding tail_of full_of
  tail_in zone band rest e =
      either (eqb (length rest) 0) _ _ _ e (no_rule _ n)
      (λ e. either (eqb (length rest) 1) _ _ _ e (at_rule reading LoneLetter n tt)
      (λ e. full_by zone band (letter_in rest 0) (letter_in rest 1) (drop 2 rest) _ (block_of zone band (letter_in rest 0) (letter_in rest 1)) (digits_of (drop 2 rest)) refl refl e))

  read_by_lem : (s : List ℕ) (a : Result Head Refusal) → head_of s ≡ a → begun a (λ h. tail_of h.zone h.band (drop h.next s)) ≡ Err n → Given reading n
  read_by_lem s (Err k) p e = head_in s (p ∙ ap Err (cc))
  read_by_lem s (Ok h) p e = tail_in h.zone h.band (drop h.next s) e

  pub read_refusals : (s : List ℕ) → read_of s ≡ Err n → Given reading n
  unfolding read_of
  read_refusals s e = read_by_lem s (head_of s) refl e

  metres_by : (s : List ℕ) (a : Result (Reading Position) Refusal) → read_of s ≡ a → in_metres a ≡ Err n → Given reading n
  metres_by s (Ok (Square q)) p e = clash (cc)
  metres_by s (Ok (Bare q)) p e = clash (cc)
  metres_by s (Err k) p e = read_refusals s (p ∙ ap Err (cc))

  pub metres_refusals : (s : List ℕ) → metres_read s ≡ Err n → Given reading n
  unfolding metres_read
  metres_refusals s e = metres_by s (read_of s) refl e

-- ---- the range tests: 14, 16 and 17

abbrev pub ranging : List ℕ
ranging = 14 ∷ 16 ∷ 17 ∷ []

module _ (k : Refusal) (zone : ℤ) (north : Bool) (e n : ℤ) where
  utm_by : (utm : Bool) → in_range (judged (tiles (pos 1)) utm north e n) ≡ Err k → Given ranging k
  unfolding judged
  utm_by utm x =
      through in_range (outside_of (moved (tiles (pos 1)) (eastings utm north)) e) _ _ _ x (at_rule ranging EastingOut k tt)
      (λ x. through in_range (outside_of (moved (tiles (pos 1)) (northings utm north)) n) _ _ _ x (at_rule ranging NorthingOut k tt) (no_rule _ k))

  pub utm_refusals : utm_check zone north e n ≡ Err k → Given ranging k
  unfolding utm_check verdict
  utm_refusals x = by_grid_lem in_range (grid_of zone) _ _ _ _ x (utm_by true) (utm_by false) (at_rule ranging NoSuchZone k tt)

  mgrs_by : (utm : Bool) → moved_by north e n (judged (pos 0) utm north e n) ≡ Err k → Given ranging k
  unfolding judged
  mgrs_by utm x =
      through (moved_by north e n) (outside_of (moved (pos 0) (eastings utm north)) e) _ _ _ x (at_rule ranging EastingOut k tt)
      (λ x. through (moved_by north e n) (outside_of (moved (pos 0) (northings utm north)) n) _ _ _ x (at_rule ranging NorthingOut k tt) (no_rule _ k))

  pub mgrs_refusals : mgrs_check zone north e n ≡ Err k → Given ranging k
  unfolding mgrs_check verdict
  mgrs_refusals x = by_grid_lem (moved_by north e n) (grid_of zone) _ _ _ _ x (mgrs_by true) (mgrs_by false) (at_rule ranging NoSuchZone k tt)

-- ---- writing: 14 to 20

abbrev pub writing : List ℕ
writing = 14 ∷ 15 ∷ 16 ∷ 17 ∷ 18 ∷ 19 ∷ 20 ∷ []

module _ (k : Refusal) where
  composed_at_lem : (zone : ℤ) (band : ℕ) (north : Bool) (p : ℤ) (e n : ℕ) → composed_at zone band north p e n ≡ Err k → Given writing k
  unfolding composed_at
  composed_at_lem zone band north p e n x =
      placed (place_of (bands_of zone) band) _ _ _ x (at_rule writing NoSuchBand k tt)
      (λ j x. either (not (fits zone band north (tile_at e) (tile_at n))) _ _ _ x (at_rule writing BandMisfits k tt) (no_rule _ k))

  module _ (zone : ℤ) (north : Bool) (band : ℕ) (p e n : ℤ) where
    reached_by : (c : Result Point Refusal) → mgrs_check zone north e n ≡ c
        → reached c (λ point. composed_at zone band point.north p (fold point.easting) (fold point.northing)) ≡ Err k → Given writing k
    reached_by (Err j) q x = chosen (among writing) ranging (number_of k) tt (mgrs_refusals k zone north e n (q ∙ ap Err (cc)))
    reached_by (Ok point) q x = composed_at_lem zone band point.north p (fold point.easting) (fold point.northing) x

    composed_in : composed zone north band p e n ≡ Err k → Given writing k
    unfolding composed
    composed_in x =
        either (outside (pos 0) (pos 60) zone) _ _ _ x (at_rule writing NoSuchZone k tt)
        (λ x. either (outside (negsuc 0) (pos 11) p) _ _ _ x (at_rule writing WrongPrecision k tt) (reached_by (mgrs_check zone north e n) refl))

    fit_in : (t : List ℕ) (m : ℕ) → fit_of t m ≡ Err k → Given writing k
    unfolding fit_of
    fit_in t m x = either (ltb m (length t)) _ _ _ x (at_rule writing ShortOutput k tt) (no_rule _ k)

    write_by : (c : Result Reference Refusal) (m : ℕ) → composed zone north band p e n ≡ c → answered c m ≡ Err k → Given writing k
    write_by (Ok (Full parts)) m q x = fit_in (full_text parts) m x
    write_by (Ok (BareText z)) m q x = fit_in (head_text z.zone z.band) m x
    write_by (Err j) m q x = composed_in (q ∙ ap Err (cc))

    pub write_refusals : (m : ℕ) → write_of zone north band p e n m ≡ Err k → Given writing k
    unfolding write_of
    write_refusals m x = write_by (composed zone north band p e n) m refl x

-- ---- shortening: those of reading, of writing, and 21 (the crate `laws` has that of writing's it meets 20 alone)

abbrev pub shortening : List ℕ
shortening = reading ++ (writing ++ (21 ∷ []))

short_by : (s : List ℕ) (q : ℤ) (m : ℕ) (k : Refusal) (a : Result (Reading Position) Refusal) → read_of s ≡ a → shortened a q m ≡ Err k → Given shortening k
unfolding corner_written
short_by s q m k (Err j) e x = chosen (among shortening) reading (number_of k) tt (read_refusals k s (e ∙ ap Err (cc)))
short_by s q m k (Ok (Bare y)) e x = at_rule shortening NotShortened k tt x
short_by s q m k (Ok (Square y)) e x =
    either (outside (pos 0) y.p q) _ _ _ x (at_rule shortening NotShortened k tt)
    (λ x. chosen (among shortening) writing (number_of k) tt (write_refusals k _ _ _ _ _ _ m x))

pub short_refusals : (s : List ℕ) (q : ℤ) (m : ℕ) (k : Refusal) → short_of s q m ≡ Err k → Given shortening k
unfolding short_of
short_refusals s q m k x = short_by s q m k (read_of s) refl x

-- ---- covering: those of reading

covers_by : (s t : List ℕ) (k : Refusal) (a b : Result (Reading Position) Refusal) → read_of s ≡ a → read_of t ≡ b → covering a b ≡ Err k → Given reading k
covers_by s t k (Err j) b e f x = read_refusals k s (e ∙ ap Err (cc))
covers_by s t k (Ok (Bare a)) (Err j) e f x = read_refusals k t (f ∙ ap Err (cc))
covers_by s t k (Ok (Bare a)) (Ok (Bare b)) e f x = clash (cc)
covers_by s t k (Ok (Bare a)) (Ok (Square b)) e f x = clash (cc)
covers_by s t k (Ok (Square a)) (Err j) e f x = read_refusals k t (f ∙ ap Err (cc))
covers_by s t k (Ok (Square a)) (Ok (Bare b)) e f x = clash (cc)
covers_by s t k (Ok (Square a)) (Ok (Square b)) e f x = clash (cc)

pub covers_refusals : (s t : List ℕ) (k : Refusal) → covers_of s t ≡ Err k → Given reading k
unfolding covers_of
covers_refusals s t k x = covers_by s t k (read_of s) (read_of t) refl refl x

-- ---- the standard zone: 22

module _ (k : Refusal) where
  at_zone : ◌≡◌ {A = Result ℤ Refusal} (Err LatitudeOut) (Err k) → k ≡ LatitudeOut
  at_zone e = cc

  pub zone_refusals : (latitude longitude : ℤ) → zone_of latitude longitude ≡ Err k → k ≡ LatitudeOut
  unfolding zone_of
  zone_refusals latitude longitude e =
      either (lt_z latitude (negsuc 89999999999)) _ _ _ e at_zone
      (λ e. either (lt_z (pos 90000000000) latitude) _ _ _ e at_zone
      (λ e. either (lt_z latitude (negsuc 79999999999)) _ _ _ e (no_rule _ k)
      (λ e. either (le_z (pos 84000000000) latitude) _ _ _ e (no_rule _ k) (no_rule _ k))))
