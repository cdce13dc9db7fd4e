-- Two answers that meet a call's promise are equal: one lemma for each public call, over the contract itself.
-- Assumes nothing.
use mathlib.Core.Path.{◌≡◌, sym, ◌∙◌}
use contract.Lifetimes.{Lfts}
use borrow.Fn.World.{ArgsD, ResD}
use denote.Triple.Clauses.{AtExit}
use Rattle.runs.specs.contracts.zone_lead as zone_lead
use Rattle.runs.proofs.zone_lead.Reads as zone_lead_reads
use Rattle.runs.specs.contracts.digits_of as digits_of
use Rattle.runs.proofs.digits_of.Reads as digits_of_reads

pub zone_lead_unique : (κs : Lfts 1) (a : ArgsD zone_lead.signature κs) (r r' : ResD zone_lead.signature κs) (s s' : AtExit zone_lead.ended κs) → zone_lead_reads.Post κs a r s → zone_lead_reads.Post κs a r' s' → r ≡ r'
zone_lead_unique κs a r r' s s' p q = p ∙ sym q

pub digits_of_unique : (κs : Lfts 1) (a : ArgsD digits_of.signature κs) (r r' : ResD digits_of.signature κs) (s s' : AtExit digits_of.ended κs) → digits_of_reads.Post κs a r s → digits_of_reads.Post κs a r' s' → r ≡ r'
digits_of_unique κs a r r' s s' p q = p ∙ sym q
