-- What is read and then written returns: a square from its south-west corner, a bare zone from its point, each as the
-- canonical bytes of its text. Assumes nothing.
use mathlib.Core.Path.{◌≡◌, refl, sym, ap, ◌∙◌, subst}
use mathlib.Core.Bool.{true, false}
use mathlib.Core.List.{List, [], ◌∷◌, ◌++◌, append-nil}
use Prim.Native.Nat.{ℕ, ◌*◌, ◌≤◌}
use native.Mathlib.Omega.{arith}
use borrow.Author.Tests.{lt-ltb}
use lib.IntN.{ℤ, pos, negsuc}
use lib.ListN.{length, take, drop, length-drop, take-append-drop}
use Rattle.whole.specs.Compare.{outside}
use Rattle.whole.proofs.Parts.{clash}
use Rattle.letters.specs.Letters.{LetterSet, capital_of, place_of}
use Rattle.letters.proofs.Laws.{no_capital}
use Rattle.position.specs.declared.Position.{Position}
use Rattle.position.specs.Squares.{corner_of, south_west}
use Rattle.words.specs.Bytes.{all_digits}
use Rattle.words.proofs.Laws.{digit_range, all_head, all_tail}
use Rattle.head.specs.Head.{letter_in}
use Rattle.block.specs.Bare.{bare_of}
use Rattle.reader.specs.Read.{square_of, read_of}
use Rattle.block.proofs.Placed.{placed}
use Rattle.reader.proofs.Stages.{squared, bared}
use Rattle.runs.proofs.Halves.{halved_by}
use Rattle.writer.specs.Text.{head_text}
use Rattle.composer.specs.Compose.{made_of}
use Rattle.laws.specs.Sound.{rest_of}
use Rattle.laws.specs.Trips.{in_capitals, canonical, Writes, Returns}
use Rattle.laws.proofs.BarePoints.{bare_point}
use Rattle.laws.specs.Squares.{short_text}
use Rattle.laws.proofs.Corners.{written, from_tiles, head_place, told, short_writes}
use lib.Seq.{take_all}
use Rattle.std.specs.Prelude.{Some, None, Ok}
use Rattle.reader.specs.declared.Reading.TheVariants.{Square, Bare}
use Rattle.composer.specs.declared.Reference.TheVariants.{Bare as BareText}

-- ---- the bytes

-- digits are their own capitals
digit_same : (b : ℕ) → b ≤ 57 → capital_of b ≡ b
unfolding capital_of
digit_same b h = rw (lt-ltb b 97 (omega arith))

digits_same : (ds : List ℕ) → all_digits ds ≡ true → in_capitals ds ≡ ds
unfolding in_capitals
digits_same [] t = refl
digits_same (d ∷ ds) t = rw (digit_same d (digit_range d (all_head d ds t)).1, digits_same ds (all_tail d ds t))

-- no set has the byte that stands for none
not_none : (set : LetterSet) (c : ℕ) → place_of set (capital_of 0) ≡ Some c → ⊥
unfolding capital_of
not_none set c e = let k : None ≡ Some c = sym (no_capital set 0 (λ h g. omega arith)) ∙ e in clash (cc)

-- two letters and digits, in capitals
letters_and_digits : (set other : LetterSet) (c l : ℕ) (rest : List ℕ) → place_of set (letter_in rest 0) ≡ Some c → place_of other (letter_in rest 1) ≡ Some l
    → all_digits (drop 2 rest) ≡ true → letter_in rest 0 ∷ letter_in rest 1 ∷ drop 2 rest ≡ in_capitals rest
unfolding in_capitals
letters_and_digits set other c l [] x y t = absurd (not_none set c x)
letters_and_digits set other c l (a ∷ []) x y t = absurd (not_none other l y)
letters_and_digits set other c l (a ∷ b ∷ ds) x y t = rw (digits_same ds t)

-- all p digits of both axes are the digits
all_digits_lem : (ds : List ℕ) (p : ℕ) → length ds ≡ 2 * p → take p ds ++ take p (drop p ds) ≡ ds
all_digits_lem ds p h =
    let l : length (drop p ds) ≤ p = simp length-drop (omega arith) in
    rw (take_all p (drop p ds) l) (take-append-drop p ds)

-- so a text shortened to all of its digits is the canonical one
whole_text : (zone : ℤ) (band c l p : ℕ) (set other : LetterSet) (rest : List ℕ) → length (drop 2 rest) ≡ 2 * p → all_digits (drop 2 rest) ≡ true
    → place_of set (letter_in rest 0) ≡ Some c → place_of other (letter_in rest 1) ≡ Some l
    → head_text zone band ++ (letter_in rest 0 ∷ letter_in rest 1 ∷ (take p (drop 2 rest) ++ take p (drop p (drop 2 rest)))) ≡ head_text zone band ++ in_capitals rest
whole_text zone band c l p set other rest h t x y =
    rw (all_digits_lem (drop 2 rest) p h, letters_and_digits set other c l rest x y t)

-- a bare zone's p is in range
p_bare : outside (negsuc 0) (pos 11) (negsuc 0) ≡ false
unfolding outside
p_bare = refl

-- a bare zone's text, where nothing follows the band
bare_text : (zone : ℤ) (band : ℕ) (rest : List ℕ) → length rest ≡ 0 → head_text zone band ++ in_capitals rest ≡ head_text zone band
unfolding in_capitals
bare_text zone band [] h = append-nil (head_text zone band)
bare_text zone band (b ∷ rest) h = absurd (omega arith)

-- ---- the theorems

-- a square returns from its south-west corner: it is shortened to all of its digits
pub square_returns : (s : List ℕ) (q : Position) → read_of s ≡ Ok (Square q) → Returns s (south_west q)
unfolding square_of
square_returns s q e =
    let a = squared s q e in
    let h = a.head in
    let d = halved_by _ _ a.is_digits in
    let w = placed _ _ _ _ _ a.is_block in
    let p = ap (λ (x : Position). x.p) a.is ∙ d.p in
    let t = told s q h d.n e a.is_head p in
    let v = short_writes s q h d.n d.n t a.is_head (omega arith) in
    let f = whole_text h.zone h.band w.c w.l d.n _ _ (rest_of s h) d.all d.digits w.is_column w.is_row in
    let at : ℤ → Position = λ y. record { zone = q.zone; north = q.north; band = q.band; p = y; easting = corner_of q.p q.easting; northing = corner_of q.p q.northing } in
    record {
      head = h;
      zone_and_band = a.is_head;
      bytes = subst (λ (x : List ℕ). Writes (south_west q) x) f (subst (λ (y : ℤ). Writes (at y) (short_text s h d.n d.n)) (sym p) v);
    }

-- a bare zone returns from its point
pub bare_returns : (s : List ℕ) (q : Position) → read_of s ≡ Ok (Bare q) → Returns s q
unfolding bare_of made_of
bare_returns s q e =
    let a = bared s q e in
    let h = a.head in
    let b = head_place s h a.is_head in
    let o = bare_point _ _ _ b in
    let c = from_tiles h.zone h.band _ o.e o.n (negsuc 0) o.easting.units o.northing.units b p_bare o.inside o.easting.tile o.northing.tile in
    let t = bare_text h.zone h.band (rest_of s h) a.ends in
    subst (λ (x : Position). Returns s x) (sym a.is)
    (record {
      head = h;
      zone_and_band = a.is_head;
      bytes = written (bare_of h.zone h.band) (Ok (BareText (record { zone = h.zone; band = h.band }))) (canonical s h)
          (rw (o.easting.is, o.northing.is) c) (λ m. rw t) (λ l. rw t);
    })
