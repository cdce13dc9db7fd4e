-- Two answers that meet the call's promise are equal: over the contract itself. Assumes nothing.
use mathlib.Core.Path.{◌≡◌, sym, ◌∙◌}
use contract.Lifetimes.{Lfts}
use borrow.Fn.World.{ArgsD, ResD}
use denote.Triple.Clauses.{AtExit}
use Rattle.trip.specs.contracts.read_back as read_back
use Rattle.trip.proofs.read_back.Reads as read_back_reads

pub read_back_unique : (κs : Lfts 0) (a : ArgsD read_back.signature κs) (r r' : ResD read_back.signature κs) (s s' : AtExit read_back.ended κs) → read_back_reads.Post κs a r s → read_back_reads.Post κs a r' s' → r ≡ r'
read_back_unique κs a r r' s s' p q = p ∙ sym q
