-- Two answers that meet a call's promise are equal, and so are the buffers that it leaves: over the contract itself.
-- Assumes nothing.
use mathlib.Core.Path.{◌≡◌, sym, ◌∙◌}
use contract.Lifetimes.{Lfts}
use borrow.Fn.World.{ArgsD, ResD}
use denote.Triple.Clauses.{AtExit}
use Rattle.writer.specs.contracts.write as write
use Rattle.writer.proofs.write.Reads as write_reads

pub write_unique : (κs : Lfts 1) (a : ArgsD write.signature κs) (r r' : ResD write.signature κs) (s s' : AtExit write.ended κs) → write_reads.Post κs a r s → write_reads.Post κs a r' s' → (r ≡ r') × (s.1.0.now ≡ s'.1.0.now)
write_unique κs a r r' s s' p q = (p.0 ∙ sym q.0, p.1 ∙ sym q.1)
