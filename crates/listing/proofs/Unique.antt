-- Two answers that meet a call's promise are equal, and so are the buffers that it leaves: over the contract itself.
-- Assumes nothing.
use mathlib.Core.Path.{◌≡◌, sym, ◌∙◌}
use contract.Lifetimes.{Lfts}
use borrow.Fn.World.{ArgsD, ResD}
use denote.Triple.Clauses.{AtExit}
use Rattle.listing.specs.contracts.list_line as list_line
use Rattle.listing.proofs.list_line.Reads as list_line_reads
use Rattle.listing.specs.contracts.list_line_by as list_line_by
use Rattle.listing.proofs.list_line_by.Reads as list_line_by_reads

pub list_line_unique : (κs : Lfts 2) (a : ArgsD list_line.signature κs) (r r' : ResD list_line.signature κs) (s s' : AtExit list_line.ended κs) → list_line_reads.Post κs a r s → list_line_reads.Post κs a r' s' → (r ≡ r') × (s.1.1.0.now ≡ s'.1.1.0.now)
list_line_unique κs a r r' s s' p q = (p.0 ∙ sym q.0, p.1 ∙ sym q.1)

pub list_line_by_unique : (κs : Lfts 2) (a : ArgsD list_line_by.signature κs) (r r' : ResD list_line_by.signature κs) (s s' : AtExit list_line_by.ended κs) → list_line_by_reads.Post κs a r s → list_line_by_reads.Post κs a r' s' → (r ≡ r') × (s.1.1.1.0.now ≡ s'.1.1.1.0.now)
list_line_by_unique κs a r r' s s' p q = (p.0 ∙ sym q.0, p.1 ∙ sym q.1)
