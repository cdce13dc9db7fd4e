-- Two answers that meet a call's promise are equal: one lemma for each public call, over the contract itself.
-- Assumes nothing.
use mathlib.Core.Path.{◌≡◌, sym, ◌∙◌}
use contract.Lifetimes.{Lfts}
use borrow.Fn.World.{ArgsD, ResD}
use denote.Triple.Clauses.{AtExit}
use Rattle.rules.specs.contracts.Refusal.number as number
use Rattle.rules.proofs.Refusal.number.Reads as number_reads

pub number_unique : (κs : Lfts 0) (a : ArgsD number.signature κs) (r r' : ResD number.signature κs) (s s' : AtExit number.ended κs) → number_reads.Post κs a r s → number_reads.Post κs a r' s' → r ≡ r'
number_unique κs a r r' s s' p q = p ∙ sym q
