-- Two answers that meet a call's promise are equal: one lemma for each public call, over the contract itself.
-- Assumes nothing.
use mathlib.Core.Path.{◌≡◌, sym, ◌∙◌}
use contract.Lifetimes.{Lfts}
use borrow.Fn.World.{ArgsD, ResD}
use denote.Triple.Clauses.{AtExit}
use Rattle.position.specs.contracts.half_of as half_of_lem
use Rattle.position.proofs.half_of.Reads as half_of_reads
use Rattle.position.specs.contracts.side_length as side_length
use Rattle.position.proofs.side_length.Reads as side_length_reads
use Rattle.position.specs.contracts.corner_of as corner_of
use Rattle.position.proofs.corner_of.Reads as corner_of_reads
use Rattle.position.specs.contracts.south_west as south_west
use Rattle.position.proofs.south_west.Reads as south_west_reads

pub half_of_unique : (κs : Lfts 0) (a : ArgsD half_of_lem.signature κs) (r r' : ResD half_of_lem.signature κs) (s s' : AtExit half_of_lem.ended κs) → half_of_reads.Post κs a r s → half_of_reads.Post κs a r' s' → r ≡ r'
half_of_unique κs a r r' s s' p q = p ∙ sym q

pub side_length_unique : (κs : Lfts 0) (a : ArgsD side_length.signature κs) (r r' : ResD side_length.signature κs) (s s' : AtExit side_length.ended κs) → side_length_reads.Post κs a r s → side_length_reads.Post κs a r' s' → r ≡ r'
side_length_unique κs a r r' s s' p q = p ∙ sym q

pub corner_of_unique : (κs : Lfts 0) (a : ArgsD corner_of.signature κs) (r r' : ResD corner_of.signature κs) (s s' : AtExit corner_of.ended κs) → corner_of_reads.Post κs a r s → corner_of_reads.Post κs a r' s' → r ≡ r'
corner_of_unique κs a r r' s s' p q = p ∙ sym q

pub south_west_unique : (κs : Lfts 0) (a : ArgsD south_west.signature κs) (r r' : ResD south_west.signature κs) (s s' : AtExit south_west.ended κs) → south_west_reads.Post κs a r s → south_west_reads.Post κs a r' s' → r ≡ r'
south_west_unique κs a r r' s s' p q = p ∙ sym q
