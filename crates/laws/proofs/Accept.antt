-- Acceptance: a sound text is read as a square exactly if an allowed row of its letter exists, that row is the one
-- answered, and there is only one; where there is none the answer is 10. A sound UPS text is always read. Assumes nothing.
use mathlib.Core.Path.{◌≡◌, refl, sym, ◌∙◌}
use mathlib.Core.Logic.{◌↔◌}
use mathlib.Core.List.{List}
use Prim.Native.Nat.{ℕ, ◌+◌}
use native.Mathlib.Omega.{arith}
use borrow.Author.Tests.{ne_eqb}
use lib.ListN.{length}
use Rattle.whole.proofs.Parts.{clash}
use Rattle.letters.specs.Letters.{first_tile, north_band}
use Rattle.bands.specs.Bands.{band_number}
use Rattle.columns.specs.Columns.{columns_of}
use Rattle.row_letters.specs.RowLetters.{rows_of}
use Rattle.rows.specs.Letters.{shift_of}
use Rattle.rows.specs.Resolve.{resolve}
use Rattle.rows.proofs.Theorems.{found, answered, nothing, unique}
use Rattle.head.specs.Head.{letter_in}
use Rattle.block.specs.Block.{tile_of, tiles_of, on_row, utm_block, block_of}
use Rattle.reader.specs.Read.{blocked, parts_of, square_of, full_of, tail_of, read_of}
use Rattle.laws.specs.Sound.{rest_of, Sound, Utm, Ups, HasRow, Accepted, square_in}
use Rattle.std.specs.Prelude.{ℤ, Option, Some, None, Ok, Err}
use Rattle.rules.specs.declared.Refusal.TheVariants.{NoAllowedRow}
use Rattle.reader.specs.declared.Reading.TheVariants.{Square}

module _ (s : List ℕ) (o : Sound s) where
  rest : List ℕ
  rest = rest_of s o.head

  east : ℕ
  east = first_tile (columns_of o.head.zone o.head.band) + o.c

  -- what is left to decide is the block
  to_block : read_of s ≡ blocked (block_of o.head.zone o.head.band (letter_in rest 0) (letter_in rest 1))
      (λ t. Ok (Square (square_of (parts_of o.head.zone o.head.band (letter_in rest 0) (letter_in rest 1) o.digits) t)))
  unfolding read_of tail_of full_of rest
  to_block =
      let f = o.full in
      let z : length (rest_of s o.head) ≡ 0 → ⊥ = omega arith in
      let u : length (rest_of s o.head) ≡ 1 → ⊥ = omega arith in
      rw (o.zone_and_band, ne_eqb _ _ z, ne_eqb _ _ u, o.halves)

  -- in UTM, by the row that resolution answers
  row_of_lem : Option ℤ
  row_of_lem = resolve (shift_of o.head.zone) (band_number o.head.band) o.c o.l

  utm_block_lem : Utm o → block_of o.head.zone o.head.band (letter_in rest 0) (letter_in rest 1) ≡ on_row east row_of_lem
  unfolding block_of utm_block rest east row_of_lem
  utm_block_lem u = rw (o.column, o.row, u)

  ups_block : Ups o → block_of o.head.zone o.head.band (letter_in rest 0) (letter_in rest 1)
      ≡ tiles_of east (first_tile (rows_of o.head.zone (north_band o.head.band)) + o.l)
  unfolding block_of rest east
  ups_block u = rw (o.column, o.row, u)

  module _ (u : Utm o) where
    -- the row that is allowed and has the letter is the one that the answer stands on
    pub with_row : (h : HasRow o) → read_of s ≡ Ok (Square (square_in o (tile_of h.r)))
    unfolding rest east row_of_lem
    with_row h =
        let f = found (band_number o.head.band) o.c (shift_of o.head.zone) o.l h.r h.is_allowed h.has_letter in
        to_block ∙ rw (utm_block_lem u, f)

    -- without one, the answer is 10
    pub without_row : (HasRow o → ⊥) → read_of s ≡ Err NoAllowedRow
    unfolding rest east row_of_lem
    without_row n =
        let f = nothing (band_number o.head.band) o.c (shift_of o.head.zone) o.l (λ r a e. n (record { r = r; is_allowed = a; has_letter = e })) in
        to_block ∙ rw (utm_block_lem u, f)

    by_answer : (a : Option ℤ) → row_of_lem ≡ a → Accepted s → HasRow o
    unfolding rest east row_of_lem
    by_answer (Some x) e h =
        let k = answered (band_number o.head.band) o.c (shift_of o.head.zone) o.l x e in
        record { r = x; is_allowed = k.0; has_letter = k.1 }
    by_answer None e h = let k : Err NoAllowedRow ≡ Ok (Square h.q) = sym (to_block ∙ rw (utm_block_lem u, e)) ∙ h.is in clash (cc)

    -- so: accepted exactly if there is such a row
    pub accepted : Accepted s ↔ HasRow o
    accepted = (by_answer row_of_lem refl, λ h. record { q = square_in o (tile_of h.r); is = with_row h })

    -- "only one such row exists"
    pub one_row : (h k : HasRow o) → h.r ≡ k.r
    one_row h k = unique (band_number o.head.band) o.c (shift_of o.head.zone) h.r k.r h.is_allowed k.is_allowed (h.has_letter ∙ sym k.has_letter)

  -- UPS rows: "all are allowed"
  pub polar : Ups o → read_of s ≡ Ok (Square (square_in o (first_tile (rows_of o.head.zone (north_band o.head.band)) + o.l)))
  unfolding rest east
  polar u = to_block ∙ rw (ups_block u)
