-- Two answers that meet a call's promise are equal: one lemma for each public call, over the contract itself.
-- Assumes nothing.
use mathlib.Core.Path.{◌≡◌, sym, ◌∙◌}
use contract.Lifetimes.{Lfts}
use borrow.Fn.World.{ArgsD, ResD}
use denote.Triple.Clauses.{AtExit}
use Rattle.letters.specs.contracts.capital as capital
use Rattle.letters.proofs.capital.Reads as capital_reads
use Rattle.letters.specs.contracts.is_north as is_north
use Rattle.letters.proofs.is_north.Reads as is_north_reads
use Rattle.letters.specs.contracts.is_east as is_east
use Rattle.letters.proofs.is_east.Reads as is_east_reads
use Rattle.letters.specs.contracts.skipped as skipped
use Rattle.letters.proofs.skipped.Reads as skipped_reads
use Rattle.letters.specs.contracts.skipped_in_columns as skipped_in_columns
use Rattle.letters.proofs.skipped_in_columns.Reads as skipped_in_columns_reads
use Rattle.letters.specs.contracts.skipped_in_bands as skipped_in_bands
use Rattle.letters.proofs.skipped_in_bands.Reads as skipped_in_bands_reads
use Rattle.letters.specs.contracts.behind as behind
use Rattle.letters.proofs.behind.Reads as behind_reads
use Rattle.letters.specs.contracts.confirmed as confirmed
use Rattle.letters.proofs.confirmed.Reads as confirmed_reads
use Rattle.letters.specs.contracts.tile_of as tile_of
use Rattle.letters.proofs.tile_of.Reads as tile_of_reads
use Rattle.letters.specs.contracts.letter_at as letter_at
use Rattle.letters.proofs.letter_at.Reads as letter_at_reads

pub capital_unique : (κs : Lfts 0) (a : ArgsD capital.signature κs) (r r' : ResD capital.signature κs) (s s' : AtExit capital.ended κs) → capital_reads.Post κs a r s → capital_reads.Post κs a r' s' → r ≡ r'
capital_unique κs a r r' s s' p q = p ∙ sym q

pub is_north_unique : (κs : Lfts 0) (a : ArgsD is_north.signature κs) (r r' : ResD is_north.signature κs) (s s' : AtExit is_north.ended κs) → is_north_reads.Post κs a r s → is_north_reads.Post κs a r' s' → r ≡ r'
is_north_unique κs a r r' s s' p q = p ∙ sym q

pub is_east_unique : (κs : Lfts 0) (a : ArgsD is_east.signature κs) (r r' : ResD is_east.signature κs) (s s' : AtExit is_east.ended κs) → is_east_reads.Post κs a r s → is_east_reads.Post κs a r' s' → r ≡ r'
is_east_unique κs a r r' s s' p q = p ∙ sym q

pub skipped_unique : (κs : Lfts 0) (a : ArgsD skipped.signature κs) (r r' : ResD skipped.signature κs) (s s' : AtExit skipped.ended κs) → skipped_reads.Post κs a r s → skipped_reads.Post κs a r' s' → r ≡ r'
skipped_unique κs a r r' s s' p q = p ∙ sym q

pub skipped_in_columns_unique : (κs : Lfts 0) (a : ArgsD skipped_in_columns.signature κs) (r r' : ResD skipped_in_columns.signature κs) (s s' : AtExit skipped_in_columns.ended κs) → skipped_in_columns_reads.Post κs a r s → skipped_in_columns_reads.Post κs a r' s' → r ≡ r'
skipped_in_columns_unique κs a r r' s s' p q = p ∙ sym q

pub skipped_in_bands_unique : (κs : Lfts 0) (a : ArgsD skipped_in_bands.signature κs) (r r' : ResD skipped_in_bands.signature κs) (s s' : AtExit skipped_in_bands.ended κs) → skipped_in_bands_reads.Post κs a r s → skipped_in_bands_reads.Post κs a r' s' → r ≡ r'
skipped_in_bands_unique κs a r r' s s' p q = p ∙ sym q

pub behind_unique : (κs : Lfts 0) (a : ArgsD behind.signature κs) (r r' : ResD behind.signature κs) (s s' : AtExit behind.ended κs) → behind_reads.Post κs a r s → behind_reads.Post κs a r' s' → r ≡ r'
behind_unique κs a r r' s s' p q = p ∙ sym q

pub confirmed_unique : (κs : Lfts 1) (a : ArgsD confirmed.signature κs) (r r' : ResD confirmed.signature κs) (s s' : AtExit confirmed.ended κs) → confirmed_reads.Post κs a r s → confirmed_reads.Post κs a r' s' → r ≡ r'
confirmed_unique κs a r r' s s' p q = p ∙ sym q

pub letter_at_unique : (κs : Lfts 1) (a : ArgsD letter_at.signature κs) (r r' : ResD letter_at.signature κs) (s s' : AtExit letter_at.ended κs) → letter_at_reads.Post κs a r s → letter_at_reads.Post κs a r' s' → r ≡ r'
letter_at_unique κs a r r' s s' p q = p ∙ sym q

pub tile_of_unique : (κs : Lfts 1) (a : ArgsD tile_of.signature κs) (r r' : ResD tile_of.signature κs) (s s' : AtExit tile_of.ended κs) → tile_of_reads.Post κs a r s → tile_of_reads.Post κs a r' s' → r ≡ r'
tile_of_unique κs a r r' s s' p q = p ∙ sym q
