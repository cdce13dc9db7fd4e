-- Two answers that meet a call's promise are equal, and so are the buffers that it leaves: over the contract itself.
-- Assumes nothing.
use mathlib.Core.Path.{◌≡◌, sym, ◌∙◌}
use contract.Lifetimes.{Lfts}
use borrow.Fn.World.{ArgsD, ResD}
use denote.Triple.Clauses.{AtExit}
use Rattle.lines.specs.contracts.start as start
use Rattle.lines.proofs.start.Reads as start_reads
use Rattle.lines.specs.contracts.received as received
use Rattle.lines.proofs.received.Reads as received_reads
use Rattle.lines.specs.contracts.step as step
use Rattle.lines.proofs.step.Reads as step_reads
use Rattle.lines.specs.contracts.written as written
use Rattle.lines.proofs.written.Reads as written_reads
use Rattle.lines.specs.contracts.finish as finish
use Rattle.lines.proofs.finish.Reads as finish_reads

pub start_unique : (κs : Lfts 0) (a : ArgsD start.signature κs) (r r' : ResD start.signature κs) (s s' : AtExit start.ended κs) → start_reads.Post κs a r s → start_reads.Post κs a r' s' → r ≡ r'
start_unique κs a r r' s s' p q = p ∙ sym q

pub received_unique : (κs : Lfts 1) (a : ArgsD received.signature κs) (r r' : ResD received.signature κs) (s s' : AtExit received.ended κs) → received_reads.Post κs a r s → received_reads.Post κs a r' s' → r ≡ r'
received_unique κs a r r' s s' p q = p ∙ sym q

pub step_unique : (κs : Lfts 2) (a : ArgsD step.signature κs) (r r' : ResD step.signature κs) (s s' : AtExit step.ended κs) → step_reads.Post κs a r s → step_reads.Post κs a r' s'
    → (r ≡ r') × (s.0.now ≡ s'.0.now) × (s.1.0.now ≡ s'.1.0.now)
step_unique κs a r r' s s' p q = (p.0 ∙ sym q.0, p.1 ∙ sym q.1, p.2 ∙ sym q.2)

pub written_unique : (κs : Lfts 0) (a : ArgsD written.signature κs) (r r' : ResD written.signature κs) (s s' : AtExit written.ended κs) → written_reads.Post κs a r s → written_reads.Post κs a r' s' → r ≡ r'
written_unique κs a r r' s s' p q = p ∙ sym q

pub finish_unique : (κs : Lfts 2) (a : ArgsD finish.signature κs) (r r' : ResD finish.signature κs) (s s' : AtExit finish.ended κs) → finish_reads.Post κs a r s → finish_reads.Post κs a r' s'
    → (r ≡ r') × (s.1.0.now ≡ s'.1.0.now)
finish_unique κs a r r' s s' p q = (p.0 ∙ sym q.0, p.1 ∙ sym q.1)
