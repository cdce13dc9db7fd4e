-- Two answers that meet a call's promise are equal: one lemma for each public call, over the contract itself.
-- Assumes nothing.
use mathlib.Core.Path.{◌≡◌, sym, ◌∙◌}
use contract.Lifetimes.{Lfts}
use borrow.Fn.World.{ArgsD, ResD}
use denote.Triple.Clauses.{AtExit}
use Rattle.block.specs.contracts.bare_of as bare_of
use Rattle.block.proofs.bare_of.Reads as bare_of_reads
use Rattle.block.specs.contracts.block_of as Block-of
use Rattle.block.proofs.block_of.Reads as block_of_reads

pub bare_of_unique : (κs : Lfts 0) (a : ArgsD bare_of.signature κs) (r r' : ResD bare_of.signature κs) (s s' : AtExit bare_of.ended κs) → bare_of_reads.Post κs a r s → bare_of_reads.Post κs a r' s' → r ≡ r'
bare_of_unique κs a r r' s s' p q = p ∙ sym q

pub block_of_unique : (κs : Lfts 0) (a : ArgsD Block-of.signature κs) (r r' : ResD Block-of.signature κs) (s s' : AtExit Block-of.ended κs) → block_of_reads.Post κs a r s → block_of_reads.Post κs a r' s' → r ≡ r'
block_of_unique κs a r r' s s' p q = p ∙ sym q
