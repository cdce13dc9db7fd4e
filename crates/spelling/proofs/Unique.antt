-- Two answers that meet a call's promise are equal: one lemma for each public call, over the contract itself.
-- Assumes nothing.
use mathlib.Core.Path.{◌≡◌, sym, ◌∙◌}
use contract.Lifetimes.{Lfts}
use borrow.Fn.World.{ArgsD, ResD}
use denote.Triple.Clauses.{AtExit}
use Rattle.spelling.specs.contracts.spelled as spelled
use Rattle.spelling.proofs.spelled.Reads as spelled_reads

pub spelled_unique : (κs : Lfts 0) (a : ArgsD spelled.signature κs) (r r' : ResD spelled.signature κs) (s s' : AtExit spelled.ended κs) → spelled_reads.Post κs a r s → spelled_reads.Post κs a r' s' → r ≡ r'
spelled_unique κs a r r' s s' p q = p ∙ sym q
