-- Two answers that meet a call's promise are equal: one lemma for each public call, over the contract itself.
-- Assumes nothing.
use mathlib.Core.Path.{◌≡◌, sym, ◌∙◌}
use contract.Lifetimes.{Lfts}
use borrow.Fn.World.{ArgsD, ResD}
use denote.Triple.Clauses.{AtExit}
use Rattle.zones.specs.contracts.to_latitude_band as to_latitude_band
use Rattle.zones.proofs.to_latitude_band.Reads as to_latitude_band_reads
use Rattle.zones.specs.contracts.standard_zone as standard_zone
use Rattle.zones.proofs.standard_zone.Reads as standard_zone_reads

pub to_latitude_band_unique : (κs : Lfts 0) (a : ArgsD to_latitude_band.signature κs) (r r' : ResD to_latitude_band.signature κs) (s s' : AtExit to_latitude_band.ended κs) → to_latitude_band_reads.Post κs a r s → to_latitude_band_reads.Post κs a r' s' → r ≡ r'
to_latitude_band_unique κs a r r' s s' p q = p ∙ sym q

pub standard_zone_unique : (κs : Lfts 0) (a : ArgsD standard_zone.signature κs) (r r' : ResD standard_zone.signature κs) (s s' : AtExit standard_zone.ended κs) → standard_zone_reads.Post κs a r s → standard_zone_reads.Post κs a r' s' → r ≡ r'
standard_zone_unique κs a r r' s s' p q = p ∙ sym q
