-- Two answers that meet a call's promise are equal: one lemma for each public call, over the contract itself.
-- Assumes nothing.
use mathlib.Core.Path.{◌≡◌, sym, ◌∙◌}
use contract.Lifetimes.{Lfts}
use borrow.Fn.World.{ArgsD, ResD}
use denote.Triple.Clauses.{AtExit}
use Rattle.columns.specs.contracts.utm_place as utm_place
use Rattle.columns.proofs.utm_place.Reads as utm_place_reads
use Rattle.columns.specs.contracts.ups_tile as ups_tile
use Rattle.columns.proofs.ups_tile.Reads as ups_tile_reads
use Rattle.columns.specs.contracts.column_letter as column_letter
use Rattle.columns.proofs.column_letter.Reads as column_letter_reads
use Rattle.columns.specs.contracts.first_column as first_column
use Rattle.columns.proofs.first_column.Reads as first_column_reads

pub utm_place_unique : (κs : Lfts 0) (a : ArgsD utm_place.signature κs) (r r' : ResD utm_place.signature κs) (s s' : AtExit utm_place.ended κs) → utm_place_reads.Post κs a r s → utm_place_reads.Post κs a r' s' → r ≡ r'
utm_place_unique κs a r r' s s' p q = p ∙ sym q

pub ups_tile_unique : (κs : Lfts 0) (a : ArgsD ups_tile.signature κs) (r r' : ResD ups_tile.signature κs) (s s' : AtExit ups_tile.ended κs) → ups_tile_reads.Post κs a r s → ups_tile_reads.Post κs a r' s' → r ≡ r'
ups_tile_unique κs a r r' s s' p q = p ∙ sym q

pub column_letter_unique : (κs : Lfts 0) (a : ArgsD column_letter.signature κs) (r r' : ResD column_letter.signature κs) (s s' : AtExit column_letter.ended κs) → column_letter_reads.Post κs a r s → column_letter_reads.Post κs a r' s' → r ≡ r'
column_letter_unique κs a r r' s s' p q = p ∙ sym q

pub first_column_unique : (κs : Lfts 0) (a : ArgsD first_column.signature κs) (r r' : ResD first_column.signature κs) (s s' : AtExit first_column.ended κs) → first_column_reads.Post κs a r s → first_column_reads.Post κs a r' s' → r ≡ r'
first_column_unique κs a r r' s s' p q = p ∙ sym q
