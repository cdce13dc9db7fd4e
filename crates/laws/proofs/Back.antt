-- Whatever the writer composes reads back: to its zone, band and digit count, and to the square that holds the point after
-- the edge rules. Assumes nothing.
use mathlib.Core.Path.{◌≡◌, refl, sym, ap, ◌∙◌, subst}
use mathlib.Core.Bool.{Bool, true, false}
use mathlib.Core.List.{List, [], ◌++◌, append-nil}
use Prim.Native.Nat.{ℕ, zero, suc, ◌+◌, ◌*◌, ◌/◌, ◌%◌, ◌^◌, ◌≤◌, ◌<◌}
use native.Mathlib.Nat.{mul_assoc, div-add-mod', add-mul-div_right, div-lt_iff_lt-mul}
use native.Mathlib.Omega.{arith}
use borrow.Author.Tests.{ltb-true, ltb-false, le-ltb, eq-eqb, ne_eqb}
use lib.IntN.{ℤ, pos, negsuc}
use lib.Signed.{lt_z}
use lib.ListN.{length, take, drop, length-append}
use lib.Seq.{take_at, drop_at}
use Rattle.whole.specs.Compare.{outside}
use Rattle.whole.specs.Floor.{fold}
use Rattle.whole.proofs.Parts.{clash}
use Rattle.whole.proofs.Ranges.{not_outside}
use Rattle.letters.specs.Letters.{place_of, north_band}
use Rattle.bands.specs.Bands.{grid_of, bands_of}
use Rattle.columns.specs.Columns.{columns_of}
use Rattle.row_letters.specs.RowLetters.{rows_of}
use Rattle.words.specs.Bytes.{has_high}
use Rattle.runs.specs.Runs.{last_digits}
use Rattle.runs.proofs.Decimals.{digits_length, digits_all, digits_value, all_append, low_digits}
use Rattle.position.specs.declared.Parts.{Parts}
use Rattle.ranges.specs.declared.Point.{Point}
use Rattle.ranges.specs.Edges.{mgrs_check}
use Rattle.position.specs.Squares.{side_length, number_of, centre_of, holds}
use Rattle.position.proofs.Squares.{centre_at, side_pos, tile_sides, holds_is}
use Rattle.ranges.proofs.Reach.{Counted, Within, UpsReach, utm_reach, ups_reach, east_count, north_count}
use Rattle.block.specs.declared.Tiles.{Tiles}
use Rattle.block.specs.Bare.{bare_of}
use Rattle.block.specs.Block.{block_of}
use Rattle.runs.specs.Digits.{digits_of}
use Rattle.reader.specs.Read.{square_of, full_of, tail_of, read_of}
use Rattle.block.proofs.Placed.{placed}
use Rattle.composer.specs.declared.BareZone.{BareZone}
use Rattle.writer.specs.Text.{head_text, block_text, full_text}
use Rattle.position.specs.Units.{tile_at}
use Rattle.composer.specs.Compose.{cut_of, fits, letter_of_tile, row_letter, parts_at, composed}
use Rattle.writer.specs.Write.{fit_of, leaves_of, answered, kept, write_of, write_leaves}
use Rattle.writer.proofs.Fit.{held, fitted}
use Rattle.composer.proofs.Stages.{Checked, full, bare}
use Rattle.laws.specs.Trips.{around, square_at, back_of, SquareBack, BareBack, ReadsBack}
use Rattle.laws.proofs.Heads.{capital_is, not_high, starts}
use Rattle.laws.proofs.Inside.{low_tile, high_tile}
use Rattle.laws.proofs.PointLetters.{Reads, utm_grid, utm_reads, ups_reads}
use Rattle.std.specs.Prelude.{Some, Result, Ok, Err}
use Rattle.rules.specs.declared.Refusal.{Refusal}
use Rattle.reader.specs.declared.Reading.{Reading}
use Rattle.reader.specs.declared.Reading.TheVariants.{Square, Bare}
use Rattle.composer.specs.declared.Reference.{Reference}
use Rattle.composer.specs.declared.Reference.TheVariants.{Full, Bare as BareText}
use Rattle.position.specs.declared.Position.{Position}

-- ---- the digits

-- two numbers of n digits halve again
halve : (n x y : ℕ) → n ≤ 11 → x < 10 ^ n → y < 10 ^ n → digits_of (last_digits n x ++ last_digits n y) ≡ Ok (record { p = pos n; easting = x; northing = y })
unfolding digits_of
halve n x y h g k =
    let xs = last_digits n x in
    let ys = last_digits n y in
    let a = digits_length n x in
    let b = digits_length n y in
    let l : length (xs ++ ys) ≡ 2 * n = length-append xs ys ∙ omega arith in
    let even : 2 * n % 2 ≡ 0 = omega arith in
    let half : 2 * n / 2 ≡ n = omega arith in
    rw (all_append xs ys, digits_all n x, digits_all n y, l, even, le-ltb 22 (2 * n) (omega arith), half, take_at xs ys n a, drop_at xs ys n a, digits_value n x g, digits_value n y k)

-- none of them is a high byte
no_high : (n x y : ℕ) → has_high (last_digits n x ++ last_digits n y) ≡ false
unfolding has_high
no_high n x y =
    low_digits (last_digits n x) (last_digits n y) (digits_all n x)
    ∙ ap has_high (sym (append-nil (last_digits n y)))
    ∙ low_digits (last_digits n y) [] (digits_all n y)

-- ---- a text of sound parts

module _ (z band k column row n x y : ℕ) (t : Tiles) (most : z ≤ 60) (place : place_of (bands_of (pos z)) band ≡ Some k)
    (block : block_of (pos z) band column row ≡ Ok t) (few : n ≤ 11) (hx : x < 10 ^ n) (hy : y < 10 ^ n) where
  -- zone, letters and digits
  abbrev parts : Parts
  parts = record { zone = pos z; band = band; column = column; row = row; p = pos n; easting = x; northing = y }

  -- after the band
  tail_reads : tail_of (pos z) band (block_text parts) ≡ Ok (Square (square_of parts t))
  unfolding tail_of full_of block_text
  tail_reads =
      let b = placed (pos z) band column row t block in
      let m : 2 ≤ length (block_text parts) = omega arith in
      rw (
        ne_eqb (length (block_text parts)) 0 (λ q. omega arith),
        ne_eqb (length (block_text parts)) 1 (λ q. omega arith),
        capital_is (columns_of (pos z) band) column b.c b.is_column,
        capital_is (rows_of (pos z) (north_band band)) row b.l b.is_row,
        block,
        halve n x y few hx hy,
      )

  -- no byte of the block is high
  low_block : has_high (block_text parts) ≡ false
  unfolding has_high block_text
  low_block =
      let b = placed (pos z) band column row t block in
      rw (
        not_high (columns_of (pos z) band) column b.c b.is_column,
        not_high (rows_of (pos z) (north_band band)) row b.l b.is_row,
        no_high n x y,
      )

  -- so the whole is read as the square of the parts in the tiles
  pub parts_read : read_of (full_text parts) ≡ Ok (Square (square_of parts t))
  unfolding read_of full_text
  parts_read =
      let s = starts z band k (block_text parts) most place low_block in
      rw (s.is_head, s.after) tail_reads

-- ---- a coordinate's tile and digits

module _ (n x : ℕ) (few : n ≤ 11) where
  -- the digits are n
  cut_lt : cut_of (pos n) x < 10 ^ n
  unfolding cut_of
  cut_lt =
      let s = side_length (pos n) in
      let e = tile_sides n 0 few in
      let m : x % 200000000000 < 200000000000 = omega arith in
      (div-lt_iff_lt-mul {k = s} {x = x % 200000000000} {y = 10 ^ n} (side_pos n 0 few)).1 (omega arith)

  -- tile and digits number the square along the axis
  number_is : x / side_length (pos n) ≡ number_of n (tile_at x) (cut_of (pos n) x)
  unfolding cut_of
  number_is =
      let s = side_length (pos n) in
      let r = x % 200000000000 in
      let q = x / 200000000000 in
      let e = mul_assoc q (10 ^ n) s ∙ ap (λ (y : ℕ). q * y) (tile_sides n 0 few) in
      let d = div-add-mod' x 200000000000 in
      let f : r + q * 10 ^ n * s ≡ x = omega arith in
      ap (λ (y : ℕ). y / s) (sym f) ∙ add-mul-div_right r (q * 10 ^ n) (side_pos n 0 few) ∙ omega arith

  -- so the square around a coordinate holds it
  around_holds : holds (pos n) (pos (centre_of (pos n) (tile_at x) (cut_of (pos n) x))) (pos x) ≡ true
  around_holds =
      let m = number_of n (tile_at x) (cut_of (pos n) x) in
      rw (centre_at n (tile_at x) (cut_of (pos n) x) few cut_lt, holds_is n m few x) (eq-eqb (x / side_length (pos n)) m number_is)

-- ---- a point

-- a coordinate's tile, by the range that it lies in
tile_from : (low high : ℕ) (x : ℤ) → Counted low high x → low ≤ tile_at (fold x)
tile_from low high x c = let h = c.least in rw c.is (omega arith)

tile_to : (low high : ℕ) (x : ℤ) → Counted low high x → tile_at (fold x) < high
tile_to low high x c = let h = c.lt in rw c.is (omega arith)

-- both coordinates of a UPS point, by its hemisphere
polar_within : (point : Point) (t : Bool) → point.north ≡ t → UpsReach point → Within (low_tile t) (high_tile t) point
polar_within point true e r = r.north e
polar_within point false e r = r.south e

-- the letters of a point that fits are read as its tiles
abbrev PointReads : ℤ → ℕ → Point → Type 0
PointReads zone band point = Reads zone band point.north (tile_at (fold point.easting)) (tile_at (fold point.northing))

abbrev PointFits : ℤ → ℕ → Point → Type 0
PointFits zone band point = fits zone band point.north (tile_at (fold point.easting)) (tile_at (fold point.northing)) ≡ true

module _ (north : Bool) (band : ℕ) (e n : ℤ) (point : Point) (k : ℕ) where
  -- in UTM, in UPS, in both
  utm_point : (z : ℕ) → 1 ≤ z → z ≤ 60 → mgrs_check (pos z) north e n ≡ Ok point → place_of (bands_of (pos z)) band ≡ Some k → PointFits (pos z) band point → PointReads (pos z) band point
  utm_point z least most h place fit =
      let r = utm_reach (pos z) north e n point h (utm_grid z least most) in
      utm_reads z band k point.north _ _ least most place fit
      (tile_from 1 9 point.easting r.east) (tile_to 1 9 point.easting r.east) (λ s. tile_to 10 100 point.northing (r.south s))

  ups_point : mgrs_check (pos 0) north e n ≡ Ok point → place_of (bands_of (pos 0)) band ≡ Some k → PointFits (pos 0) band point → PointReads (pos 0) band point
  unfolding grid_of
  ups_point h place fit =
      let t = point.north in
      let w = polar_within point t refl (ups_reach (pos 0) north e n point h refl) in
      ups_reads band k t _ _ place fit
      (tile_from (low_tile t) (high_tile t) point.easting w.east) (tile_to (low_tile t) (high_tile t) point.easting w.east)
      (tile_from (low_tile t) (high_tile t) point.northing w.north) (tile_to (low_tile t) (high_tile t) point.northing w.north)

  point_reads : (z : ℕ) → z ≤ 60 → mgrs_check (pos z) north e n ≡ Ok point → place_of (bands_of (pos z)) band ≡ Some k → PointFits (pos z) band point → PointReads (pos z) band point
  point_reads zero most h place fit = ups_point h place fit
  point_reads (suc m) most h place fit = utm_point (suc m) (omega arith) most h place fit

-- ---- what is composed

-- a zone that passed is at most 60
pub zone_most : (z : ℕ) → outside (pos 0) (pos 60) (pos z) ≡ false → z ≤ 60
zone_most z e = ltb-false 60 z (not_outside (pos 0) (pos 60) (pos z) e).1

-- a composed text is read as the square around its point
full_at : (zone : ℤ) (north : Bool) (band : ℕ) (p e n : ℤ) (c : Checked zone north band p e n) → lt_z p (pos 0) ≡ false
    → read_of (full_text (parts_at zone band c.point.north p (fold c.point.easting) (fold c.point.northing))) ≡ Ok (Square (square_at zone band p c.point))
unfolding parts_at square_of square_at
full_at (negsuc z) north band p e n c t = let f = (not_outside (pos 0) (pos 60) (negsuc z) c.zone_in).0 in clash (cc)
full_at (pos z) north band (negsuc j) e n c t = clash (cc)
full_at (pos z) north band (pos j) e n c t =
    let most = zone_most z c.zone_in in
    let few = ltb-false 11 j (not_outside (negsuc 0) (pos 11) (pos j) c.p_in).1 in
    let r = point_reads north band e n c.point c.k z most c.is_point c.is_band c.fit in
    let x = fold c.point.easting in
    let y = fold c.point.northing in
    parts_read z band c.k (letter_of_tile (columns_of (pos z) band) (tile_at x)) (row_letter (pos z) c.point.north (tile_at y)) j (cut_of (pos j) x) (cut_of (pos j) y) _ most c.is_band r.block few (cut_lt j x few) (cut_lt j y few)
    ∙ rw r.side

-- a composed zone and band are read as the bare zone
pub bare_at : (zone : ℤ) (band k : ℕ) → outside (pos 0) (pos 60) zone ≡ false → place_of (bands_of zone) band ≡ Some k → read_of (head_text zone band) ≡ Ok (Bare (bare_of zone band))
unfolding read_of tail_of has_high
bare_at (negsuc z) band k h place = let f = (not_outside (pos 0) (pos 60) (negsuc z) h).0 in clash (cc)
bare_at (pos z) band k h place =
    let s = starts z band k [] (zone_most z h) place refl in
    ap read_of (sym (append-nil (head_text (pos z) band))) ∙ rw (s.is_head, s.after)

-- what is written into a buffer with room is the text
written : (t l : List ℕ) (m : ℕ) → fit_of t (length l) ≡ Ok m → take m (leaves_of t l) ≡ t
written t l m e =
    let f = fitted t (length l) m e in
    let k : length t ≤ length l = omega (arith, f.0, f.1) in
    ap (take m) (held t l k) ∙ take_at t (drop (length t) l) m (sym f.0)

-- ---- the laws

module _ (zone : ℤ) (north : Bool) (band : ℕ) (p e n : ℤ) where
  -- what reading back is to be, of a full reference and of a bare zone
  back_square : (parts : Parts) (point : Point) → composed zone north band p e n ≡ Ok (Full parts) → mgrs_check zone north e n ≡ Ok point → back_of zone north band p e n ≡ Ok (Square (square_at zone band p point))
  unfolding back_of
  back_square parts point x h = rw (x, h)

  back_bare : (z : BareZone) → composed zone north band p e n ≡ Ok (BareText z) → back_of zone north band p e n ≡ Ok (Bare (bare_of zone band))
  unfolding back_of
  back_bare z x = rw x

  -- what is composed reads as that
  pub full_reads : (parts : Parts) → composed zone north band p e n ≡ Ok (Full parts) → read_of (full_text parts) ≡ back_of zone north band p e n
  full_reads parts x =
      let f = full zone north band p e n parts x in
      ap (λ (q : Parts). read_of (full_text q)) f.is
      ∙ full_at zone north band p e n f.checked f.digits
      ∙ sym (back_square parts f.checked.point x f.checked.is_point)

  pub bare_reads : (z : BareZone) → composed zone north band p e n ≡ Ok (BareText z) → read_of (head_text z.zone z.band) ≡ back_of zone north band p e n
  bare_reads z x =
      let f = bare zone north band p e n z x in
      ap (λ (q : BareZone). read_of (head_text q.zone q.band)) f.is
      ∙ bare_at zone band f.checked.k f.checked.zone_in f.checked.is_band
      ∙ sym (back_bare z x)

  -- by what is composed
  back_by : (c : Result Reference Refusal) (l : List ℕ) (m : ℕ) → composed zone north band p e n ≡ c → answered c (length l) ≡ Ok m → read_of (take m (kept c l)) ≡ back_of zone north band p e n
  back_by (Ok (Full parts)) l m x a = ap read_of (written (full_text parts) l m a) ∙ full_reads parts x
  back_by (Ok (BareText z)) l m x a = ap read_of (written (head_text z.zone z.band) l m a) ∙ bare_reads z x
  back_by (Err k) l m x a = clash (cc)

  -- and so does what was written
  pub reads_back : (l : List ℕ) (m : ℕ) → write_of zone north band p e n (length l) ≡ Ok m → read_of (take m (write_leaves zone north band p e n l)) ≡ back_of zone north band p e n
  unfolding write_of write_leaves
  reads_back l m a = back_by (composed zone north band p e n) l m refl a

-- on one axis, the square around a coordinate of p digits holds it
axis_holds : (p x : ℤ) → lt_z p (pos 0) ≡ false → outside (negsuc 0) (pos 11) p ≡ false → x ≡ pos (fold x) → holds p (around p x) x ≡ true
axis_holds (negsuc j) x t h c = clash (cc)
axis_holds (pos j) x t h c =
    let few = ltb-false 11 j (not_outside (negsuc 0) (pos 11) (pos j) h).1 in
    rw c (around_holds j (fold x) few)

module _ (zone : ℤ) (north : Bool) (band : ℕ) (p e n : ℤ) where
  -- "unless bare, to the square holding the point after the edge rules"
  pub square_back : (parts : Parts) → composed zone north band p e n ≡ Ok (Full parts) → (point : Point) → mgrs_check zone north e n ≡ Ok point → SquareBack zone band p point (back_of zone north band p e n)
  unfolding square_at
  square_back parts x point h =
      let f = full zone north band p e n parts x in
      record {
        q = square_at zone band p point;
        is = back_square zone north band p e n parts point x h;
        zone_is = refl;
        band_is = refl;
        p_is = refl;
        north_is = refl;
        east = axis_holds p point.easting f.digits f.checked.p_in (east_count zone north e n point h);
        north = axis_holds p point.northing f.digits f.checked.p_in (north_count zone north e n point h);
      }

  -- a bare zone to its zone and band
  pub bare_back : (z : BareZone) → composed zone north band p e n ≡ Ok (BareText z) → BareBack zone band (back_of zone north band p e n)
  unfolding bare_of
  bare_back z x =
      let f = bare zone north band p e n z x in
      record {
        q = bare_of zone band;
        is = back_bare zone north band p e n z x;
        zone_is = refl;
        band_is = refl;
        p_is = refl;
      }

-- below 0 there is only -1
bare_p : (p : ℤ) → outside (negsuc 0) (pos 11) p ≡ false → lt_z p (pos 0) ≡ true → p ≡ negsuc 0
bare_p (pos n) h t = absurd (omega (arith, ltb-true n 0 t))
bare_p (negsuc n) h t = let k = ltb-false 0 n (not_outside (negsuc 0) (pos 11) (negsuc n) h).0 in ap negsuc (omega arith)

module _ (zone : ℤ) (north : Bool) (band : ℕ) (p e n : ℤ) where
  -- by what is composed, of the answer of reading
  all_by : (c : Result Reference Refusal) (m k : ℕ) → composed zone north band p e n ≡ c → answered c m ≡ Ok k → ReadsBack zone north band p e n (back_of zone north band p e n)
  all_by (Ok (Full parts)) m k x a =
      let f = full zone north band p e n parts x in
      let no = f.digits in
      record {
        point = f.checked.point;
        is_point = f.checked.is_point;
        square = λ t. square_back zone north band p e n parts x f.checked.point f.checked.is_point;
        bare = λ t. let z : true ≡ false = sym t ∙ no in clash (cc);
      }
  all_by (Ok (BareText z)) m k x a =
      let f = bare zone north band p e n z x in
      let no = f.no_digits in
      record {
        point = f.checked.point;
        is_point = f.checked.is_point;
        square = λ t. let y : true ≡ false = sym no ∙ t in clash (cc);
        bare = λ t. (bare_p p f.checked.p_in t, bare_back zone north band p e n z x);
      }
  all_by (Err j) m k x a = clash (cc)

  -- whatever is written, in whatever buffer, reads back
  pub written_back : (l : List ℕ) (m : ℕ) → write_of zone north band p e n (length l) ≡ Ok m
      → ReadsBack zone north band p e n (read_of (take m (write_leaves zone north band p e n l)))
  unfolding write_of
  written_back l m a =
      subst (λ (y : Result (Reading Position) Refusal). ReadsBack zone north band p e n y) (sym (reads_back zone north band p e n l m a))
      (all_by (composed zone north band p e n) (length l) m refl a)
