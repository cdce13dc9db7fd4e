-- Two answers that meet a call's promise are equal, and so are the buffers that it leaves: over the contract itself.
-- Assumes nothing.
use mathlib.Core.Path.{◌≡◌, sym, ◌∙◌}
use contract.Lifetimes.{Lfts}
use borrow.Fn.World.{ArgsD, ResD}
use denote.Triple.Clauses.{AtExit}
use Rattle.squares.specs.contracts.shorten as shorten
use Rattle.squares.proofs.shorten.Reads as shorten_reads
use Rattle.squares.specs.contracts.covers as covers
use Rattle.squares.proofs.covers.Reads as covers_reads

pub shorten_unique : (κs : Lfts 2) (a : ArgsD shorten.signature κs) (r r' : ResD shorten.signature κs) (s s' : AtExit shorten.ended κs) → shorten_reads.Post κs a r s → shorten_reads.Post κs a r' s' → (r ≡ r') × (s.1.1.0.now ≡ s'.1.1.0.now)
shorten_unique κs a r r' s s' p q = (p.0 ∙ sym q.0, p.1 ∙ sym q.1)

pub covers_unique : (κs : Lfts 2) (a : ArgsD covers.signature κs) (r r' : ResD covers.signature κs) (s s' : AtExit covers.ended κs) → covers_reads.Post κs a r s → covers_reads.Post κs a r' s' → r ≡ r'
covers_unique κs a r r' s s' p q = p ∙ sym q
