-- A text that is read covers itself, a text is covered by its bare zone and by what it is shortened to, and what covers
-- goes on from text to text. Assumes nothing.
use mathlib.Core.Path.{◌≡◌, refl, sym, ap, ◌∙◌}
use mathlib.Core.Bool.{Bool, true, false}
use mathlib.Core.List.{List}
use Prim.Native.Nat.{ℕ, ◌+◌, ◌-◌, ◌*◌, ◌/◌, ◌%◌, ◌^◌, ◌≤◌, ◌<◌}
use native.Mathlib.Nat.{mod-lt, div-add-mod', mul-le-mul_right}
use native.Mathlib.Omega.{arith}
use borrow.Author.Tests.{le-leb, eq-eqb, eqb-true}
use lib.IntN.{ℤ, pos, negsuc, ◌+ℤ◌}
use lib.Signed.{le_z}
use Rattle.whole.specs.Compare.{outside, same}
use Rattle.whole.proofs.Parts.{clash, le_yes, le_true}
use Rattle.whole.proofs.Powers.{ten_pos}
use Rattle.whole.proofs.Ranges.{not_outside}
use Rattle.whole.proofs.Signed.{same→eq, same_yes}
use Rattle.letters.specs.Letters.{place_of}
use Rattle.bands.specs.Bands.{bands_of}
use Rattle.words.proofs.Laws.{and_left, and_right}
use Rattle.position.specs.declared.Position.{Position}
use Rattle.position.specs.Squares.{side_length, number_of, centre_of, corner_of}
use Rattle.head.specs.declared.Head.{Head}
use Rattle.block.specs.declared.Tiles.{Tiles}
use Rattle.head.specs.Head.{head_of}
use Rattle.block.specs.Bare.{bare_of}
use Rattle.block.specs.Block.{block_of}
use Rattle.reader.specs.Read.{parts_of, square_of, read_of}
use Rattle.reader.proofs.Stages.{squared}
use Rattle.writer.specs.Text.{head_text, full_text}
use Rattle.squares.specs.Covers.{same_area, axis_within, square_within, covering, covers_of}
use Rattle.laws.specs.Squares.{short_text}
use Rattle.laws.proofs.Inside.{kind}
use Rattle.laws.proofs.Corners.{corner, head_place, ten, sides, powers, first_lt, Told, told, short_parts, short_text_lem}
use Rattle.laws.proofs.Back.{zone_most, parts_read, bare_at}
use Rattle.std.specs.Prelude.{Some, Result, Ok, Err}
use Rattle.rules.specs.declared.Refusal.{Refusal}
use Rattle.reader.specs.declared.Reading.{Reading}
use Rattle.reader.specs.declared.Reading.TheVariants.{Square, Bare}

-- ---- the tests

-- the test of zone and band passes where they are equal
area : (a b : Position) → a.zone ≡ b.zone → a.band ≡ b.band → same_area a b ≡ true
unfolding same_area
area a b e f = rw (same_yes a.zone b.zone e, eq-eqb a.band b.band f)

-- and only there
area_is : (a b : Position) → same_area a b ≡ true → (a.zone ≡ b.zone) × (a.band ≡ b.band)
unfolding same_area
area_is a b t =
    (same→eq a.zone b.zone (and_left _ _ t), eqb-true a.band b.band (and_right (same a.zone b.zone) _ t))

-- it goes on from one position to the next
area_on : (a b c : Position) → same_area a b ≡ true → same_area b c ≡ true → same_area a c ≡ true
area_on a b c t u = let e = area_is a b t in let f = area_is b c u in area a c (e.0 ∙ f.0) (e.1 ∙ f.1)

-- at most what is at most another is at most that one
le_on : (a b c : ℤ) → le_z a b ≡ true → le_z b c ≡ true → le_z a c ≡ true
le_on a b c t u = let x = le_yes a b t in let y = le_yes b c u in le_true a c (omega arith)

-- the edge across from the corner
abbrev edge : ℤ → ℤ → ℤ
edge p c = corner_of p c +ℤ pos (side_length p)

-- on one axis, a square lies within itself
axis_self : (p c : ℤ) → axis_within p c p c ≡ true
unfolding axis_within
axis_self p c = rw (le_true (corner_of p c) (corner_of p c) (omega arith), le_true (edge p c) (edge p c) (omega arith))

-- and within what the one around it lies in
axis_on : (p c r d u e : ℤ) → axis_within p c r d ≡ true → axis_within r d u e ≡ true → axis_within p c u e ≡ true
unfolding axis_within
axis_on p c r d u e t v =
    let low = le_on (corner_of p c) (corner_of r d) (corner_of u e) (and_left _ _ t) (and_left _ _ v) in
    let high = le_on (edge u e) (edge r d) (edge p c) (and_right (le_z (corner_of r d) (corner_of u e)) _ v) (and_right (le_z (corner_of p c) (corner_of r d)) _ t) in
    rw (low, high)

-- on both axes, a square lies within itself
within_self : (a : Position) → square_within a a ≡ true
unfolding square_within
within_self a = rw (axis_self a.p a.easting, axis_self a.p a.northing)

-- and within what the one around it lies in
within_on : (a b c : Position) → square_within a b ≡ true → square_within b c ≡ true → square_within a c ≡ true
unfolding square_within
within_on a b c t u =
    let east = axis_on a.p a.easting b.p b.easting c.p c.easting (and_left _ _ t) (and_left _ _ u) in
    let t1 = and_right (axis_within a.p a.easting b.p b.easting) _ t in
    let u1 = and_right (axis_within b.p b.easting c.p c.easting) _ u in
    let north = axis_on a.p a.northing b.p b.northing c.p c.northing t1 u1 in
    rw (east, north)

-- so a square covers one that lies within it
square_covers : (s t : List ℕ) (a b : Position) → read_of s ≡ Ok (Square a) → read_of t ≡ Ok (Square b) → a.zone ≡ b.zone → a.band ≡ b.band → square_within a b ≡ true → covers_of s t ≡ Ok true
unfolding covers_of
square_covers s t a b e f z n w = rw (e, f, area a b z n, w)

-- ---- a text covers itself

-- one that is read as a square
pub self_covers : (s : List ℕ) (x : Position) → read_of s ≡ Ok (Square x) → covers_of s s ≡ Ok true
self_covers s x e = square_covers s s x x e e refl refl (within_self x)

-- and one that is read as a bare zone
pub bare_self_covers : (s : List ℕ) (x : Position) → read_of s ≡ Ok (Bare x) → covers_of s s ≡ Ok true
unfolding covers_of
bare_self_covers s x e = rw (e, area x x refl refl)

-- ---- its bare zone covers it

-- "either A is bare": the zone and the band of a square, written alone, cover it
pub bare_covers : (s : List ℕ) (x : Position) (h : Head) → read_of s ≡ Ok (Square x) → head_of s ≡ Ok h → covers_of (head_text h.zone h.band) s ≡ Ok true
unfolding covers_of square_of bare_of
bare_covers s x h e start =
    let a = squared s x e in
    let i = a.is_head in
    let same_head : a.head ≡ h = cc in
    let b = head_place s h start in
    let r = bare_at h.zone h.band _ (kind h.zone h.band _ b).in_range b in
    let z = ap (λ (y : Position). y.zone) a.is ∙ ap (λ (y : Head). y.zone) same_head in
    let n = ap (λ (y : Position). y.band) a.is ∙ ap (λ (y : Head). y.band) same_head in
    rw (e, r, area (bare_of h.zone h.band) x (sym z) (sym n))

-- ---- what it is shortened to covers it

-- of sides of c parts, the part r of side n begins no sooner than that side
inner_low : (n c r s : ℕ) → n * (c * s) ≤ (n * c + r) * s
inner_low n c r s = omega arith

-- and ends no later
inner_high : (n c r s : ℕ) → r < c → (n * c + r) * s + s ≤ n * (c * s) + c * s
inner_high n c r s h = let m = mul-le-mul_right s h in omega arith

module _ (p q t d : ℕ) (few : p ≤ 11) (le : q ≤ p) (g : d < 10 ^ p) where
  -- the square of p digits is a part of the one of its first q
  number_in : number_of p t d ≡ number_of q t (d / ten p q) * ten p q + d % ten p q
  number_in =
      let e = div-add-mod' d (ten p q) in
      rw (powers p q few le) (omega arith)

  -- so it lies within that one on the axis
  axis_short : axis_within (pos q) (pos (centre_of (pos q) t (d / ten p q))) (pos p) (pos (centre_of (pos p) t d)) ≡ true
  unfolding axis_within
  axis_short =
      let c = ten p q in
      let n = number_of q t (d / c) in
      let s = side_length (pos p) in
      let r = d % c in
      let low = inner_low n c r s in
      let high = inner_high n c r s (mod-lt d (ten_pos (p - q))) in
      rw (corner p t d few g, corner q t (d / c) (omega arith) (first_lt p q few le t d g), sides p q few le, number_in, le-leb _ _ low, le-leb _ _ high)

-- the text of sound parts is read as their square in the tiles of their letters
any_read : (zone : ℤ) (band k column row n x y : ℕ) (t : Tiles) → outside (pos 0) (pos 60) zone ≡ false → place_of (bands_of zone) band ≡ Some k
    → block_of zone band column row ≡ Ok t → n ≤ 11 → x < 10 ^ n → y < 10 ^ n
    → let parts = parts_of zone band column row (record { p = pos n; easting = x; northing = y }) in read_of (full_text parts) ≡ Ok (Square (square_of parts t))
any_read (negsuc z) band k column row n x y t h place block few hx hy = let f = (not_outside (pos 0) (pos 60) (negsuc z) h).0 in clash (cc)
any_read (pos z) band k column row n x y t h place block few hx hy = parts_read z band k column row n x y t (zone_most z h) place block few hx hy

-- the shortened text is so read
short_read : (s : List ℕ) (x : Position) (h : Head) (p q : ℕ) (t : Told s x h p) (start : head_of s ≡ Ok h) (le : q ≤ p)
    → read_of (short_text s h p q) ≡ Ok (Square (square_of (short_parts s x h p q t start le) t.tiles))
short_read s x h p q t start le =
    let b = head_place s h start in
    let few = t.few in
    ap read_of (sym (short_text_lem s x h p q t start le))
    ∙ any_read h.zone h.band _ _ _ q _ _ t.tiles (kind h.zone h.band _ b).in_range b t.block (omega arith)
    (first_lt p q few le 0 t.d t.east_lt) (first_lt p q few le 0 t.f t.north_lt)

-- so what is shortened covers what it was made from
pub short_covers : (s : List ℕ) (x : Position) (p q : ℕ) (h : Head) → read_of s ≡ Ok (Square x) → x.p ≡ pos p → q ≤ p → head_of s ≡ Ok h
    → covers_of (short_text s h p q) s ≡ Ok true
unfolding square_of square_within
short_covers s x p q h e w le start =
    let t = told s x h p e start w in
    let r = short_read s x h p q t start le in
    let east = axis_short p q t.tiles.easting t.d t.few le t.east_lt in
    let north = axis_short p q t.tiles.northing t.f t.few le t.north_lt in
    square_covers (short_text s h p q) s _ _ r (e ∙ ap (λ x. Ok (Square x)) t.is) refl refl (rw (east, north))

-- ---- covering goes on

-- what covers has passed its test
yes : (t : Bool) → ◌≡◌ {A = Result Bool Refusal} (Ok t) (Ok true) → t ≡ true
yes t e = cc

-- of three answers, the first covers the last where each covers the next
on_by : (a b c : Result (Reading Position) Refusal) → covering a b ≡ Ok true → covering b c ≡ Ok true → covering a c ≡ Ok true
on_by (Err k) b c e f = clash (cc)
on_by (Ok (Bare a)) (Err k) c e f = clash (cc)
on_by (Ok (Bare a)) (Ok (Bare b)) (Err k) e f = clash (cc)
on_by (Ok (Bare a)) (Ok (Bare b)) (Ok (Bare c)) e f = rw (area_on a b c (yes _ e) (yes _ f))
on_by (Ok (Bare a)) (Ok (Bare b)) (Ok (Square c)) e f = rw (area_on a b c (yes _ e) (yes _ f))
on_by (Ok (Bare a)) (Ok (Square b)) (Err k) e f = clash (cc)
on_by (Ok (Bare a)) (Ok (Square b)) (Ok (Bare c)) e f = clash (cc)
on_by (Ok (Bare a)) (Ok (Square b)) (Ok (Square c)) e f = rw (area_on a b c (yes _ e) (and_left _ _ (yes _ f)))
on_by (Ok (Square a)) (Err k) c e f = clash (cc)
on_by (Ok (Square a)) (Ok (Bare b)) c e f = clash (cc)
on_by (Ok (Square a)) (Ok (Square b)) (Err k) e f = clash (cc)
on_by (Ok (Square a)) (Ok (Square b)) (Ok (Bare c)) e f = clash (cc)
on_by (Ok (Square a)) (Ok (Square b)) (Ok (Square c)) e f =
    let t = yes _ e in
    let u = yes _ f in
    rw (area_on a b c (and_left _ _ t) (and_left _ _ u), within_on a b c (and_right (same_area a b) _ t) (and_right (same_area b c) _ u))

-- what is covered by a text is covered by what covers that text
pub covers_on : (a b c : List ℕ) → covers_of a b ≡ Ok true → covers_of b c ≡ Ok true → covers_of a c ≡ Ok true
unfolding covers_of
covers_on a b c e f = on_by (read_of a) (read_of b) (read_of c) e f
