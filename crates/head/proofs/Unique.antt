-- Two answers that meet a call's promise are equal: one lemma for each public call, over the contract itself.
-- Assumes nothing.
use mathlib.Core.Path.{◌≡◌, sym, ◌∙◌}
use contract.Lifetimes.{Lfts}
use borrow.Fn.World.{ArgsD, ResD}
use denote.Triple.Clauses.{AtExit}
use Rattle.head.specs.contracts.head_of as head_of
use Rattle.head.proofs.head_of.Reads as head_of_reads

pub head_of_unique : (κs : Lfts 1) (a : ArgsD head_of.signature κs) (r r' : ResD head_of.signature κs) (s s' : AtExit head_of.ended κs) → head_of_reads.Post κs a r s → head_of_reads.Post κs a r' s' → r ≡ r'
head_of_unique κs a r r' s s' p q = p ∙ sym q
