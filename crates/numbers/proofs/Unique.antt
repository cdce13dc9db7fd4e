-- Two answers that meet a call's promise are equal, and so are the bytes that it leaves: one lemma for each call,
-- over the contract itself. Assumes nothing.
use mathlib.Core.Path.{◌≡◌, sym, ◌∙◌}
use contract.Lifetimes.{Lfts}
use borrow.Fn.World.{ArgsD, ResD}
use denote.Triple.Clauses.{AtExit}
use Rattle.numbers.specs.contracts.refused as refused
use Rattle.numbers.proofs.refused.Reads as refused_reads
use Rattle.numbers.specs.contracts.write as write
use Rattle.numbers.proofs.write.Reads as write_reads
use Rattle.numbers.specs.contracts.shorten as shorten
use Rattle.numbers.proofs.shorten.Reads as shorten_reads
use Rattle.numbers.specs.contracts.covers as covers
use Rattle.numbers.proofs.covers.Reads as covers_reads
use Rattle.numbers.specs.contracts.utm_check_coords as utm_check_coords
use Rattle.numbers.proofs.utm_check_coords.Reads as utm_check_coords_reads
use Rattle.numbers.specs.contracts.standard_zone as standard_zone
use Rattle.numbers.proofs.standard_zone.Reads as standard_zone_reads
use Rattle.numbers.specs.contracts.number_of as number_of
use Rattle.numbers.proofs.number_of.Reads as number_of_reads
use Rattle.numbers.specs.contracts.utm_row as utm_row
use Rattle.numbers.proofs.utm_row.Reads as utm_row_reads

pub refused_unique : (κs : Lfts 0) (a : ArgsD refused.signature κs) (r r' : ResD refused.signature κs) (s s' : AtExit refused.ended κs) → refused_reads.Post κs a r s → refused_reads.Post κs a r' s' → r ≡ r'
refused_unique κs a r r' s s' p q = p ∙ sym q

pub write_unique : (κs : Lfts 1) (a : ArgsD write.signature κs) (r r' : ResD write.signature κs) (s s' : AtExit write.ended κs) → write_reads.Post κs a r s → write_reads.Post κs a r' s' → (r ≡ r') × (s.1.1.1.1.1.1.0.now ≡ s'.1.1.1.1.1.1.0.now)
write_unique κs a r r' s s' p q = (p.0 ∙ sym q.0, p.1 ∙ sym q.1)

pub shorten_unique : (κs : Lfts 2) (a : ArgsD shorten.signature κs) (r r' : ResD shorten.signature κs) (s s' : AtExit shorten.ended κs) → shorten_reads.Post κs a r s → shorten_reads.Post κs a r' s' → (r ≡ r') × (s.1.1.0.now ≡ s'.1.1.0.now)
shorten_unique κs a r r' s s' p q = (p.0 ∙ sym q.0, p.1 ∙ sym q.1)

pub covers_unique : (κs : Lfts 2) (a : ArgsD covers.signature κs) (r r' : ResD covers.signature κs) (s s' : AtExit covers.ended κs) → covers_reads.Post κs a r s → covers_reads.Post κs a r' s' → r ≡ r'
covers_unique κs a r r' s s' p q = p ∙ sym q

pub utm_check_coords_unique : (κs : Lfts 0) (a : ArgsD utm_check_coords.signature κs) (r r' : ResD utm_check_coords.signature κs) (s s' : AtExit utm_check_coords.ended κs) → utm_check_coords_reads.Post κs a r s → utm_check_coords_reads.Post κs a r' s' → r ≡ r'
utm_check_coords_unique κs a r r' s s' p q = p ∙ sym q

pub standard_zone_unique : (κs : Lfts 0) (a : ArgsD standard_zone.signature κs) (r r' : ResD standard_zone.signature κs) (s s' : AtExit standard_zone.ended κs) → standard_zone_reads.Post κs a r s → standard_zone_reads.Post κs a r' s' → r ≡ r'
standard_zone_unique κs a r r' s s' p q = p ∙ sym q

pub utm_row_unique : (κs : Lfts 0) (a : ArgsD utm_row.signature κs) (r r' : ResD utm_row.signature κs) (s s' : AtExit utm_row.ended κs) → utm_row_reads.Post κs a r s → utm_row_reads.Post κs a r' s' → r ≡ r'
utm_row_unique κs a r r' s s' p q = p ∙ sym q

pub number_of_unique : (κs : Lfts 0) (a : ArgsD number_of.signature κs) (r r' : ResD number_of.signature κs) (s s' : AtExit number_of.ended κs) → number_of_reads.Post κs a r s → number_of_reads.Post κs a r' s' → r ≡ r'
number_of_unique κs a r r' s s' p q = p ∙ sym q
