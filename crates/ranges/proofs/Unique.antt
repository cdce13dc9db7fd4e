-- Two answers that meet a call's promise are equal: one lemma for each public call, over the contract itself.
-- Assumes nothing.
use mathlib.Core.Path.{◌≡◌, sym, ◌∙◌}
use contract.Lifetimes.{Lfts}
use borrow.Fn.World.{ArgsD, ResD}
use denote.Triple.Clauses.{AtExit}
use Rattle.ranges.specs.contracts.utm_check_coords as utm_check_coords
use Rattle.ranges.proofs.utm_check_coords.Reads as utm_check_coords_reads
use Rattle.ranges.specs.contracts.mgrs_check_coords as mgrs_check_coords
use Rattle.ranges.proofs.mgrs_check_coords.Reads as mgrs_check_coords_reads

pub utm_check_coords_unique : (κs : Lfts 0) (a : ArgsD utm_check_coords.signature κs) (r r' : ResD utm_check_coords.signature κs) (s s' : AtExit utm_check_coords.ended κs) → utm_check_coords_reads.Post κs a r s → utm_check_coords_reads.Post κs a r' s' → r ≡ r'
utm_check_coords_unique κs a r r' s s' p q = p ∙ sym q

pub mgrs_check_coords_unique : (κs : Lfts 0) (a : ArgsD mgrs_check_coords.signature κs) (r r' : ResD mgrs_check_coords.signature κs) (s s' : AtExit mgrs_check_coords.ended κs) → mgrs_check_coords_reads.Post κs a r s → mgrs_check_coords_reads.Post κs a r' s' → r ≡ r'
mgrs_check_coords_unique κs a r r' s s' p q = p ∙ sym q
