-- The corner of a square that was read, written at q of its p digits: its zone and letters and of its digits on each axis the
-- first q, once over p and q. Assumes nothing.
use mathlib.Core.Path.{◌≡◌, sym, ap, ◌∙◌, subst}
use mathlib.Core.Bool.{false}
use mathlib.Core.List.{List}
use Prim.Native.Nat.{ℕ, ◌+◌, ◌*◌, ◌%◌, ◌^◌, ◌≤◌, ◌<◌, ◌-◌, ◌/◌}
use native.Mathlib.Nat.{add-mul, mul_assoc, mul-lt-mul_of_pos_right, mul-div-mul_right, div-lt_iff_lt-mul}
use native.Mathlib.Omega.{arith}
use borrow.Author.Tests.{le-ltb}
use lib.IntN.{ℤ, pos, negsuc}
use lib.ListN.{length, take, drop, length-take, length-drop}
use Rattle.whole.specs.Compare.{outside}
use Rattle.letters.specs.Letters.{place_of, north_band}
use Rattle.bands.specs.Bands.{bands_of}
use Rattle.position.specs.declared.Parts.{Parts}
use Rattle.position.specs.declared.Position.{Position}
use Rattle.position.specs.Squares.{side_length, number_of, centre_of, corner_of}
use Rattle.position.proofs.Squares.{centre_at, corner_is, side_pos, tile_sides, half_is}
use Rattle.words.specs.Bytes.{all_digits}
use Rattle.runs.specs.Runs.{last_digits}
use Rattle.words.proofs.Laws.{and_left, and_right, all_split}
use Rattle.runs.proofs.Decimals.{first_digits}
use Rattle.head.specs.declared.Head.{Head}
use Rattle.block.specs.declared.Tiles.{Tiles}
use Rattle.runs.specs.declared.Digits.{Digits}
use Rattle.head.specs.Head.{letter_in, head_of}
use Rattle.reader.specs.Read.{parts_of, square_of, read_of}
use Rattle.head.proofs.Began.{began}
use Rattle.reader.proofs.Stages.{squared}
use Rattle.runs.proofs.Halves.{Halved, halved_by}
use Rattle.writer.specs.Text.{block_text, full_text}
use Rattle.position.specs.Units.{tile_at}
use Rattle.composer.specs.Compose.{cut_of, parts_at, made_of, composed}
use Rattle.writer.specs.Write.{fit_of, leaves_of, answered, kept, write_of, write_leaves}
use Rattle.writer.proofs.Fit.{room, held}
use Rattle.composer.proofs.Made.{made}
use Rattle.laws.specs.Sound.{rest_of}
use Rattle.laws.specs.Trips.{Writes}
use Rattle.laws.proofs.Inside.{kind, Inside}
use Rattle.laws.proofs.Blocks.{Stands, stands}
use lib.Pow.{pow-add}
use lib.Seq.{take-take}
use Rattle.whole.proofs.Powers.{ten_pos}
use Rattle.block.specs.Block.{block_of}
use Rattle.laws.specs.Squares.{short_text}
use Rattle.std.specs.Prelude.{Some, Result, Ok}
use Rattle.rules.specs.declared.Refusal.{Refusal}
use Rattle.reader.specs.declared.Reading.TheVariants.{Square}
use Rattle.composer.specs.declared.Reference.{Reference}
use Rattle.composer.specs.declared.Reference.TheVariants.{Full}

-- ---- the bytes

-- what is composed, and what is answered and kept of it, is written
pub written : (q : Position) (c : Result Reference Refusal) (t : List ℕ) → composed q.zone q.north q.band q.p q.easting q.northing ≡ c
    → ((m : ℕ) → answered c m ≡ fit_of t m) → ((l : List ℕ) → kept c l ≡ leaves_of t l) → Writes q t
unfolding write_of write_leaves
written q c t e f g = record {
  answer = λ l h. rw (e, f (length l)) (room t (length l) h);
  buffer = λ l h. rw (e, g l) (held t l h);
}

-- ---- the corner of a square

module _ (p t d : ℕ) (h : p ≤ 11) (g : d < 10 ^ p) where
  abbrev side : ℕ
  side = side_length (pos p)

  abbrev pub units : ℕ
  units = number_of p t d * side

  -- it lies its number of sides from 0
  pub corner : corner_of (pos p) (pos (centre_of (pos p) t d)) ≡ pos units
  corner = rw (centre_at p t d h g) (corner_is p (number_of p t d) h)

  -- that is its tile and the sides of its digits, which are less than a tile
  pub split : units ≡ t * 200000000000 + d * side
  split =
      let e = add-mul (t * 10 ^ p) d side in
      let f = mul_assoc t (10 ^ p) side ∙ ap (λ (x : ℕ). t * x) (tile_sides p t h) in
      omega arith

  pub below : d * side < 200000000000
  below = let e = tile_sides p t h in let m = mul-lt-mul_of_pos_right g (side_pos p t h) in omega arith

  -- its tile and its digits are those of the square
  pub corner_tile : tile_at units ≡ t
  corner_tile = omega (arith, split, below)

-- ---- what is composed

-- of a point in tiles whose points stay and that its band fits
pub from_tiles : (zone : ℤ) (band k e n : ℕ) (p : ℤ) (x y : ℕ) → place_of (bands_of zone) band ≡ Some k → outside (negsuc 0) (pos 11) p ≡ false
    → Inside zone band e n → tile_at x ≡ e → tile_at y ≡ n
    → composed zone (north_band band) band p (pos x) (pos y) ≡ Ok (made_of zone band (north_band band) p x y)
from_tiles zone band k e n p x y b w i h g =
    made zone (north_band band) band p k x y (kind zone band k b).in_range w (i.stays x y h g) b (rw (h, g) i.fit)

-- a square's p is in range, and a bare zone's
pub p_right : (n : ℕ) → n ≤ 11 → outside (negsuc 0) (pos 11) (pos n) ≡ false
unfolding outside
p_right n h = rw (le-ltb 11 n h)

-- the band of a head has its place
placed_as : (z : ℤ) (b v l k : ℕ) → z ≡ pos v → b ≡ l → place_of (bands_of (pos v)) l ≡ Some k → place_of (bands_of z) b ≡ Some k
placed_as z b v l k e f p = rw (e, f) p

pub head_place : (s : List ℕ) (h : Head) (e : head_of s ≡ Ok h) → place_of (bands_of h.zone) h.band ≡ Some (began s h e).k
head_place s h e = let b = began s h e in placed_as h.zone h.band _ _ _ b.zone b.band b.place

-- ---- fewer digits

-- how many numbers of p digits begin with the same q
abbrev pub ten : ℕ → ℕ → ℕ
ten p q = 10 ^ (p - q)

module _ (p q : ℕ) (few : p ≤ 11) (le : q ≤ p) where
  -- one side of q digits is so many sides of p
  pub sides : side_length (pos q) ≡ ten p q * side_length (pos p)
  unfolding side_length
  sides =
      let e : 11 - q ≡ (p - q) + (11 - p) = omega arith in
      rw (half_is q (omega arith), half_is p few, e, pow-add 10 (p - q) (11 - p)) (omega arith)

  -- and the numbers of p digits are so many for each of q
  pub powers : 10 ^ p ≡ 10 ^ q * ten p q
  powers = let e : p ≡ q + (p - q) = omega arith in ap (λ (n : ℕ). 10 ^ n) e ∙ pow-add 10 q (p - q)

  module _ (t d : ℕ) (g : d < 10 ^ p) where
    -- the first q digits are a number of q
    pub first_lt : d / ten p q < 10 ^ q
    first_lt = (div-lt_iff_lt-mul {k = ten p q} {x = d} {y = 10 ^ q} (ten_pos (p - q))).1 (rw powers at g)

    -- and they are what the corner is cut to at q
    first_cut : cut_of (pos q) (units p t d few g) ≡ d / ten p q
    unfolding cut_of
    first_cut =
        let e : units p t d few g % 200000000000 ≡ d * side_length (pos p) = omega (arith, split p t d few g, below p t d few g) in
        rw (e, sides) (mul-div-mul_right d (ten p q) (side_pos p t few))

-- ---- what is composed of the corner at q

module _ (zone : ℤ) (band k column row : ℕ) (tiles : Tiles) (p q d f : ℕ) (b : place_of (bands_of zone) band ≡ Some k)
    (o : Stands zone band column row tiles) (few : p ≤ 11) (le : q ≤ p) (g : d < 10 ^ p) (i : f < 10 ^ p) where
  -- the zone, the letters and the first q digits
  abbrev shorter : Parts
  shorter = parts_of zone band column row (record { p = pos q; easting = d / ten p q; northing = f / ten p q })

  -- that is what is made of its tiles and cut digits
  short_made : made_of zone band (north_band band) (pos q) (units p tiles.easting d few g) (units p tiles.northing f few i) ≡ Full shorter
  unfolding made_of parts_at
  short_made =
      rw (
        le-ltb q 0 (omega arith),
        corner_tile p tiles.easting d few g,
        corner_tile p tiles.northing f few i,
        first_cut p q few le tiles.easting d g,
        first_cut p q few le tiles.northing f i,
        o.column_is,
        o.row_is,
      )

  -- and what is composed of it
  short_composed : composed zone (north_band band) band (pos q) (corner_of (pos p) (pos (centre_of (pos p) tiles.easting d)))
      (corner_of (pos p) (pos (centre_of (pos p) tiles.northing f))) ≡ Ok (Full shorter)
  short_composed =
      rw (corner p tiles.easting d few g, corner p tiles.northing f few i)
      (from_tiles zone band k tiles.easting tiles.northing (pos q) _ _ b (p_right q (omega arith)) o.inside
      (corner_tile p tiles.easting d few g) (corner_tile p tiles.northing f few i) ∙ ap Ok short_made)

-- ---- behind a square with its head and its p

-- the parts of a text, by its head and its digits
abbrev pub parts_in : List ℕ → Head → Digits → Parts
parts_in s h d = parts_of h.zone h.band (letter_in (rest_of s h) 0) (letter_in (rest_of s h) 1) d

-- the tiles, and d and f, the digits of easting and northing: the first q of them are the first q bytes of their half
pub record Told (s : List ℕ) (x : Position) (h : Head) (p : ℕ) : Type 0 where
  pub tiles : Tiles
  pub block : block_of h.zone h.band (letter_in (rest_of s h) 0) (letter_in (rest_of s h) 1) ≡ Ok tiles
  pub few : p ≤ 11
  pub d : ℕ
  pub f : ℕ
  pub east_lt : d < 10 ^ p
  pub north_lt : f < 10 ^ p
  pub east : (q : ℕ) → q ≤ p → last_digits q (d / ten p q) ≡ take q (drop 2 (rest_of s h))
  pub north : (q : ℕ) → q ≤ p → last_digits q (f / ten p q) ≡ take q (drop p (drop 2 (rest_of s h)))
  pub is : x ≡ square_of (parts_in s h (record { p = pos p; easting = d; northing = f })) tiles

-- the first digits of the easting, from the text's
east_first : (ds : List ℕ) (d : Digits) (h : Halved ds d) (q : ℕ) → q ≤ h.n → last_digits q (d.easting / ten h.n q) ≡ take q ds
east_first ds d h q le =
    let n = h.n in
    let all = h.all in
    let both = sym (all_split n ds) ∙ h.digits in
    let l : length (take n ds) ≡ n = simp length-take (omega arith) in
    rw h.east (first_digits n q (take n ds) le l (and_left _ _ both) ∙ take-take q n ds le)

-- and those of the northing
north_first : (ds : List ℕ) (d : Digits) (h : Halved ds d) (q : ℕ) → q ≤ h.n → last_digits q (d.northing / ten h.n q) ≡ take q (drop h.n ds)
north_first ds d h q le =
    let n = h.n in
    let all = h.all in
    let both = sym (all_split n ds) ∙ h.digits in
    let l : length (drop n ds) ≡ n = simp length-drop (omega arith) in
    rw h.north (first_digits n q (drop n ds) le l (and_right (all_digits (take n ds)) _ both))

-- every text that is read as a square has these, by its head and its p
pub told : (s : List ℕ) (x : Position) (h : Head) (p : ℕ) → read_of s ≡ Ok (Square x) → head_of s ≡ Ok h → x.p ≡ pos p → Told s x h p
unfolding square_of
told s x h p e start w =
    let a = squared s x e in
    let v = halved_by _ _ a.is_digits in
    let i = a.is_head in
    let same_head : a.head ≡ h = cc in
    let j = ap (λ (y : Position). y.p) a.is ∙ v.p in
    let same-p : v.n ≡ p = cc in
    let at : ℤ → Position = λ y. square_of (parts_in s a.head (record { p = y; easting = a.digits.easting; northing = a.digits.northing })) a.tiles in
    subst (λ (k : Head). Told s x k p) same_head
    (subst (λ (n : ℕ). Told s x a.head n) same-p
    (record {
      tiles = a.tiles;
      block = a.is_block;
      few = v.few;
      d = a.digits.easting;
      f = a.digits.northing;
      east_lt = v.east_lt;
      north_lt = v.north_lt;
      east = east_first _ _ v;
      north = north_first _ _ v;
      is = a.is ∙ ap at v.p;
    }))

module _ (s : List ℕ) (x : Position) (h : Head) (p q : ℕ) (t : Told s x h p) (start : head_of s ≡ Ok h) (le : q ≤ p) where
  -- its zone, its letters and its first q digits
  abbrev pub short_parts : Parts
  short_parts = parts_in s h (record { p = pos q; easting = t.d / ten p q; northing = t.f / ten p q })

  -- their text is the shortened one
  pub short_text_lem : full_text short_parts ≡ short_text s h p q
  unfolding full_text block_text
  short_text_lem = rw (t.east q le, t.north q le)

  -- and the corner is written as that at q
  pub short_writes : Writes (record { zone = x.zone; north = x.north; band = x.band; p = pos q; easting = corner_of x.p x.easting; northing = corner_of x.p x.northing }) (short_text s h p q)
  unfolding square_of
  short_writes =
      let b = head_place s h start in
      let o = stands _ _ _ _ _ _ b t.block in
      let c = short_composed h.zone h.band _ _ _ t.tiles p q t.d t.f b o t.few le t.east_lt t.north_lt in
      rw t.is (written _ (Ok (Full short_parts)) (short_text s h p q) c (λ m. rw short_text_lem) (λ l. rw short_text_lem))
