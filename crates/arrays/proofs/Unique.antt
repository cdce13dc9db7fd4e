-- Two answers that meet a call's promise are equal, and so are the lent elements that it leaves: one lemma for each call,
-- over the contract itself. Assumes nothing.
use mathlib.Core.Path.{◌≡◌, sym, ◌∙◌}
use contract.Lifetimes.{Lfts}
use borrow.Fn.World.{ArgsD, ResD}
use denote.Triple.Clauses.{AtExit}
use Rattle.arrays.specs.contracts.read as read
use Rattle.arrays.proofs.read.Reads as read_reads
use Rattle.arrays.specs.contracts.read_metres as read_metres
use Rattle.arrays.proofs.read_metres.Reads as read_metres_reads
use Rattle.arrays.specs.contracts.mgrs_check_coords as mgrs_check_coords
use Rattle.arrays.proofs.mgrs_check_coords.Reads as mgrs_check_coords_reads

pub read_unique : (κs : Lfts 2) (a : ArgsD read.signature κs) (r r' : ResD read.signature κs) (s s' : AtExit read.ended κs) → read_reads.Post κs a r s → read_reads.Post κs a r' s' → (r ≡ r') × (s.1.0.now ≡ s'.1.0.now)
read_unique κs a r r' s s' p q = (p.0 ∙ sym q.0, p.1 ∙ sym q.1)

pub read_metres_unique : (κs : Lfts 2) (a : ArgsD read_metres.signature κs) (r r' : ResD read_metres.signature κs) (s s' : AtExit read_metres.ended κs) → read_metres_reads.Post κs a r s → read_metres_reads.Post κs a r' s' → (r ≡ r') × (s.1.0.now ≡ s'.1.0.now)
read_metres_unique κs a r r' s s' p q = (p.0 ∙ sym q.0, p.1 ∙ sym q.1)

pub mgrs_check_coords_unique : (κs : Lfts 1) (a : ArgsD mgrs_check_coords.signature κs) (r r' : ResD mgrs_check_coords.signature κs) (s s' : AtExit mgrs_check_coords.ended κs) → mgrs_check_coords_reads.Post κs a r s → mgrs_check_coords_reads.Post κs a r' s' → (r ≡ r') × (s.1.1.1.1.0.now ≡ s'.1.1.1.1.0.now)
mgrs_check_coords_unique κs a r r' s s' p q = (p.0 ∙ sym q.0, p.1 ∙ sym q.1)
