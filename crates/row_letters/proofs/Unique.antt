-- Two answers that meet a call's promise are equal: one lemma for each public call, over the contract itself.
-- Assumes nothing.
use mathlib.Core.Path.{◌≡◌, sym, ◌∙◌}
use contract.Lifetimes.{Lfts}
use borrow.Fn.World.{ArgsD, ResD}
use denote.Triple.Clauses.{AtExit}
use Rattle.row_letters.specs.contracts.utm_place as utm_place
use Rattle.row_letters.proofs.utm_place.Reads as utm_place_reads
use Rattle.row_letters.specs.contracts.ups_tile as ups_tile
use Rattle.row_letters.proofs.ups_tile.Reads as ups_tile_reads
use Rattle.row_letters.specs.contracts.row_letter as row_letter
use Rattle.row_letters.proofs.row_letter.Reads as row_letter_reads
use Rattle.row_letters.specs.contracts.first_row as first_row
use Rattle.row_letters.proofs.first_row.Reads as first_row_reads

pub utm_place_unique : (κs : Lfts 0) (a : ArgsD utm_place.signature κs) (r r' : ResD utm_place.signature κs) (s s' : AtExit utm_place.ended κs) → utm_place_reads.Post κs a r s → utm_place_reads.Post κs a r' s' → r ≡ r'
utm_place_unique κs a r r' s s' p q = p ∙ sym q

pub ups_tile_unique : (κs : Lfts 0) (a : ArgsD ups_tile.signature κs) (r r' : ResD ups_tile.signature κs) (s s' : AtExit ups_tile.ended κs) → ups_tile_reads.Post κs a r s → ups_tile_reads.Post κs a r' s' → r ≡ r'
ups_tile_unique κs a r r' s s' p q = p ∙ sym q

pub row_letter_unique : (κs : Lfts 0) (a : ArgsD row_letter.signature κs) (r r' : ResD row_letter.signature κs) (s s' : AtExit row_letter.ended κs) → row_letter_reads.Post κs a r s → row_letter_reads.Post κs a r' s' → r ≡ r'
row_letter_unique κs a r r' s s' p q = p ∙ sym q

pub first_row_unique : (κs : Lfts 0) (a : ArgsD first_row.signature κs) (r r' : ResD first_row.signature κs) (s s' : AtExit first_row.ended κs) → first_row_reads.Post κs a r s → first_row_reads.Post κs a r' s' → r ≡ r'
first_row_unique κs a r r' s s' p q = p ∙ sym q
