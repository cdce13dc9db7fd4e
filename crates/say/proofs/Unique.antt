-- Two answers that meet a call's promise are equal, and so are the buffers that it leaves: over the contract itself.
-- Assumes nothing.
use mathlib.Core.Path.{◌≡◌, sym, ◌∙◌}
use contract.Lifetimes.{Lfts}
use borrow.Fn.World.{ArgsD, ResD}
use denote.Triple.Clauses.{AtExit}
use Rattle.say.specs.contracts.front as front
use Rattle.say.proofs.front.Reads as front_reads
use Rattle.say.specs.contracts.put as put
use Rattle.say.proofs.put.Reads as put_reads
use Rattle.say.specs.contracts.put_count as put_count
use Rattle.say.proofs.put_count.Reads as put_count_reads

pub front_unique : (κs : Lfts 1) (a : ArgsD front.signature κs) (r r' : ResD front.signature κs) (s s' : AtExit front.ended κs) → front_reads.Post κs a r s → front_reads.Post κs a r' s' → r.now ≡ r'.now
front_unique κs a r r' s s' p q = p ∙ sym q

pub put_unique : (κs : Lfts 2) (a : ArgsD put.signature κs) (r r' : ResD put.signature κs) (s s' : AtExit put.ended κs) → put_reads.Post κs a r s → put_reads.Post κs a r' s' → (r ≡ r') × (s.0.now ≡ s'.0.now)
put_unique κs a r r' s s' p q = (p.0 ∙ sym q.0, p.1 ∙ sym q.1)

pub put_count_unique : (κs : Lfts 1) (a : ArgsD put_count.signature κs) (r r' : ResD put_count.signature κs) (s s' : AtExit put_count.ended κs) → put_count_reads.Post κs a r s → put_count_reads.Post κs a r' s' → (r ≡ r') × (s.0.now ≡ s'.0.now)
put_count_unique κs a r r' s s' p q = (p.0 ∙ sym q.0, p.1 ∙ sym q.1)
