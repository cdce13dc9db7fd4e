-- Two answers that meet a call's promise are equal: one lemma for each public call, over the contract itself.
-- Assumes nothing.
use mathlib.Core.Path.{◌≡◌, sym, ◌∙◌}
use contract.Lifetimes.{Lfts}
use borrow.Fn.World.{ArgsD, ResD}
use denote.Triple.Clauses.{AtExit}
use Rattle.reader.specs.contracts.tail_of as Tail-of
use Rattle.reader.proofs.tail_of.Reads as tail_of_reads
use Rattle.reader.specs.contracts.read as read
use Rattle.reader.proofs.read.Reads as read_reads
use Rattle.reader.specs.contracts.read_metres as read_metres
use Rattle.reader.proofs.read_metres.Reads as read_metres_reads

pub read_unique : (κs : Lfts 1) (a : ArgsD read.signature κs) (r r' : ResD read.signature κs) (s s' : AtExit read.ended κs) → read_reads.Post κs a r s → read_reads.Post κs a r' s' → r ≡ r'
read_unique κs a r r' s s' p q = p ∙ sym q

pub read_metres_unique : (κs : Lfts 1) (a : ArgsD read_metres.signature κs) (r r' : ResD read_metres.signature κs) (s s' : AtExit read_metres.ended κs) → read_metres_reads.Post κs a r s → read_metres_reads.Post κs a r' s' → r ≡ r'
read_metres_unique κs a r r' s s' p q = p ∙ sym q

pub tail_of_unique : (κs : Lfts 1) (a : ArgsD Tail-of.signature κs) (r r' : ResD Tail-of.signature κs) (s s' : AtExit Tail-of.ended κs) → tail_of_reads.Post κs a r s → tail_of_reads.Post κs a r' s' → r ≡ r'
tail_of_unique κs a r r' s s' p q = p ∙ sym q
