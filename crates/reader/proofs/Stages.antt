-- What stands behind an answer of reading: the stages that it went through and what each of them found. Assumes nothing.
use mathlib.Core.Path.{◌≡◌, refl}
use mathlib.Core.Bool.{Bool, true, false, cond}
use mathlib.Core.List.{List}
use Prim.Native.Nat.{ℕ}
use borrow.Author.Tests.{eqb-true}
use lib.Dec.{eqb}
use lib.ListN.{length, drop}
use Rattle.whole.proofs.Choice.{past}
use Rattle.whole.proofs.Parts.{clash}
use Rattle.position.specs.declared.Position.{Position}
use Rattle.head.specs.declared.Head.{Head}
use Rattle.head.specs.Head.{letter_in, head_of}
use Rattle.block.specs.declared.Tiles.{Tiles}
use Rattle.block.specs.Bare.{bare_of}
use Rattle.block.specs.Block.{block_of}
use Rattle.runs.specs.declared.Digits.{Digits}
use Rattle.runs.specs.Digits.{digits_of}
use Rattle.reader.specs.Read.{parts_of, square_of, begun, blocked, halved, full_of, tail_of, read_of}
use Rattle.std.specs.Prelude.{Result, Ok, Err}
use Rattle.rules.specs.declared.Refusal.{Refusal}
use Rattle.reader.specs.declared.Reading.{Reading}
use Rattle.reader.specs.declared.Reading.TheVariants.{Square, Bare}

-- what follows the band
abbrev pub rest_of_lem : List ℕ → Head → List ℕ
rest_of_lem s h = drop h.next s

abbrev pub column_after : List ℕ → Head → ℕ
column_after s h = letter_in (rest_of_lem s h) 0

abbrev pub row_after : List ℕ → Head → ℕ
row_after s h = letter_in (rest_of_lem s h) 1

pub record Squared (s : List ℕ) (q : Position) : Type 0 where
  pub head : Head
  pub is_head : head_of s ≡ Ok head
  pub tiles : Tiles
  pub is_block : block_of head.zone head.band (column_after s head) (row_after s head) ≡ Ok tiles
  pub digits : Digits
  pub is_digits : digits_of (drop 2 (rest_of_lem s head)) ≡ Ok digits
  pub is : q ≡ square_of (parts_of head.zone head.band (column_after s head) (row_after s head) digits) tiles

pub record Bared (s : List ℕ) (q : Position) : Type 0 where
  pub head : Head
  pub is_head : head_of s ≡ Ok head
  pub ends : length (rest_of_lem s head) ≡ 0
  pub is : q ≡ bare_of head.zone head.band

module _ (s : List ℕ) (q : Position) where
  module _ (h : Head) (e : head_of s ≡ Ok h) where
    abbrev block : Result Tiles Refusal
    block = block_of h.zone h.band (column_after s h) (row_after s h)

    abbrev digits : Result Digits Refusal
    digits = digits_of (drop 2 (rest_of_lem s h))

    abbrev square : Tiles → Digits → Result (Reading Position) Refusal
    square tiles d = Ok (Square (square_of (parts_of h.zone h.band (column_after s h) (row_after s h) d) tiles))

    by_stages : (b : Result Tiles Refusal) (d : Result Digits Refusal) → block ≡ b → digits ≡ d → blocked b (λ tiles. halved d (square tiles)) ≡ Ok (Square q) → Squared s q
    by_stages (Err n) d p r x = clash (cc)
    by_stages (Ok tiles) (Err n) p r x = clash (cc)
    by_stages (Ok tiles) (Ok d) p r x = record { head = h; is_head = e; tiles = tiles; is_block = p; digits = d; is_digits = r; is = cc }

    never_bare : (b : Result Tiles Refusal) (d : Result Digits Refusal) → blocked b (λ tiles. halved d (square tiles)) ≡ Ok (Bare q) → ⊥
    never_bare (Err n) d x = clash (cc)
    never_bare (Ok tiles) (Err n) x = clash (cc)
    never_bare (Ok tiles) (Ok d) x = clash (cc)

    in_tail : tail_of h.zone h.band (rest_of_lem s h) ≡ Ok (Square q) → Squared s q
    unfolding tail_of full_of
    in_tail x =
        let a = past (eqb (length (rest_of_lem s h)) 0) _ _ _ (λ n. clash (cc)) x in
        let b = past (eqb (length (rest_of_lem s h)) 1) _ _ _ (λ n. clash (cc)) a.1 in
        by_stages block digits refl refl b.1

    bare_by : (t : Bool) (y : Result (Reading Position) Refusal) → eqb (length (rest_of_lem s h)) 0 ≡ t → cond t (Ok (Bare (bare_of h.zone h.band))) y ≡ Ok (Bare q) → (y ≡ Ok (Bare q) → ⊥) → Bared s q
    bare_by true y z x n = record { head = h; is_head = e; ends = eqb-true _ 0 z; is = cc }
    bare_by false y z x n = absurd (n x)

    bare_tail : tail_of h.zone h.band (rest_of_lem s h) ≡ Ok (Bare q) → Bared s q
    unfolding tail_of full_of
    bare_tail x =
        bare_by (eqb (length (rest_of_lem s h)) 0) _ refl x
        (λ y. never_bare block digits (past (eqb (length (rest_of_lem s h)) 1) _ _ _ (λ n. clash (cc)) y).1)

  from_head : (a : Result Head Refusal) → head_of s ≡ a → begun a (λ h. tail_of h.zone h.band (rest_of_lem s h)) ≡ Ok (Square q) → Squared s q
  from_head (Err n) e x = clash (cc)
  from_head (Ok h) e x = in_tail h e x

  pub squared : read_of s ≡ Ok (Square q) → Squared s q
  unfolding read_of
  squared x = from_head (head_of s) refl x

  bare_head : (a : Result Head Refusal) → head_of s ≡ a → begun a (λ h. tail_of h.zone h.band (rest_of_lem s h)) ≡ Ok (Bare q) → Bared s q
  bare_head (Err n) e x = clash (cc)
  bare_head (Ok h) e x = bare_tail h e x

  pub bared : read_of s ≡ Ok (Bare q) → Bared s q
  unfolding read_of
  bared x = bare_head (head_of s) refl x
