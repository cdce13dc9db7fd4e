-- Two answers that meet a call's promise are equal: one lemma for each public call, over the contract itself.
-- Assumes nothing.
use mathlib.Core.Path.{◌≡◌, sym, ◌∙◌}
use contract.Lifetimes.{Lfts}
use borrow.Fn.World.{ArgsD, ResD}
use denote.Triple.Clauses.{AtExit}
use Rattle.bands.specs.contracts.grid_of as grid_of
use Rattle.bands.proofs.grid_of.Reads as grid_of_reads
use Rattle.bands.specs.contracts.band_place as band_place
use Rattle.bands.proofs.band_place.Reads as band_place_reads
use Rattle.bands.specs.contracts.band_index as band_index
use Rattle.bands.proofs.band_index.Reads as band_index_reads
use Rattle.bands.specs.contracts.utm_place as utm_place
use Rattle.bands.proofs.utm_place.Reads as utm_place_reads
use Rattle.bands.specs.contracts.ups_place as ups_place
use Rattle.bands.proofs.ups_place.Reads as ups_place_reads
use Rattle.bands.specs.contracts.is_band as is_band
use Rattle.bands.proofs.is_band.Reads as is_band_reads

pub grid_of_unique : (κs : Lfts 0) (a : ArgsD grid_of.signature κs) (r r' : ResD grid_of.signature κs) (s s' : AtExit grid_of.ended κs) → grid_of_reads.Post κs a r s → grid_of_reads.Post κs a r' s' → r ≡ r'
grid_of_unique κs a r r' s s' p q = p ∙ sym q

pub band_place_unique : (κs : Lfts 0) (a : ArgsD band_place.signature κs) (r r' : ResD band_place.signature κs) (s s' : AtExit band_place.ended κs) → band_place_reads.Post κs a r s → band_place_reads.Post κs a r' s' → r ≡ r'
band_place_unique κs a r r' s s' p q = p ∙ sym q

pub band_index_unique : (κs : Lfts 0) (a : ArgsD band_index.signature κs) (r r' : ResD band_index.signature κs) (s s' : AtExit band_index.ended κs) → band_index_reads.Post κs a r s → band_index_reads.Post κs a r' s' → r ≡ r'
band_index_unique κs a r r' s s' p q = p ∙ sym q

pub utm_place_unique : (κs : Lfts 0) (a : ArgsD utm_place.signature κs) (r r' : ResD utm_place.signature κs) (s s' : AtExit utm_place.ended κs) → utm_place_reads.Post κs a r s → utm_place_reads.Post κs a r' s' → r ≡ r'
utm_place_unique κs a r r' s s' p q = p ∙ sym q

pub ups_place_unique : (κs : Lfts 0) (a : ArgsD ups_place.signature κs) (r r' : ResD ups_place.signature κs) (s s' : AtExit ups_place.ended κs) → ups_place_reads.Post κs a r s → ups_place_reads.Post κs a r' s' → r ≡ r'
ups_place_unique κs a r r' s s' p q = p ∙ sym q

pub is_band_unique : (κs : Lfts 0) (a : ArgsD is_band.signature κs) (r r' : ResD is_band.signature κs) (s s' : AtExit is_band.ended κs) → is_band_reads.Post κs a r s → is_band_reads.Post κs a r' s' → r ≡ r'
is_band_unique κs a r r' s s' p q = p ∙ sym q
