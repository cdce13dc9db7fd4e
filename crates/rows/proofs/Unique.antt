-- Two answers that meet a call's promise are equal: one lemma for each public call, over the contract itself.
-- Assumes nothing.
use mathlib.Core.Path.{◌≡◌, sym, ◌∙◌}
use contract.Lifetimes.{Lfts}
use borrow.Fn.World.{ArgsD, ResD}
use denote.Triple.Clauses.{AtExit}
use Rattle.rows.specs.contracts.limits_of as Limits-of
use Rattle.rows.proofs.limits_of.Reads as limits_of_reads
use Rattle.rows.specs.contracts.is_allowed as is_allowed
use Rattle.rows.proofs.is_allowed.Reads as is_allowed_reads
use Rattle.rows.specs.contracts.shift_of as Shift-of
use Rattle.rows.proofs.shift_of.Reads as shift_of_reads
use Rattle.rows.specs.contracts.letter_of as letter_of
use Rattle.rows.proofs.letter_of.Reads as letter_of_reads
use Rattle.rows.specs.contracts.utm_row as utm_row
use Rattle.rows.proofs.utm_row.Reads as utm_row_reads
use Rattle.rows.specs.contracts.utm_row_at as utm_row_at
use Rattle.rows.proofs.utm_row_at.Reads as utm_row_at_reads

pub limits_of_unique : (κs : Lfts 0) (a : ArgsD Limits-of.signature κs) (r r' : ResD Limits-of.signature κs) (s s' : AtExit Limits-of.ended κs) → limits_of_reads.Post κs a r s → limits_of_reads.Post κs a r' s' → r ≡ r'
limits_of_unique κs a r r' s s' p q = p ∙ sym q

pub is_allowed_unique : (κs : Lfts 0) (a : ArgsD is_allowed.signature κs) (r r' : ResD is_allowed.signature κs) (s s' : AtExit is_allowed.ended κs) → is_allowed_reads.Post κs a r s → is_allowed_reads.Post κs a r' s' → r ≡ r'
is_allowed_unique κs a r r' s s' p q = p ∙ sym q

pub shift_of_unique : (κs : Lfts 0) (a : ArgsD Shift-of.signature κs) (r r' : ResD Shift-of.signature κs) (s s' : AtExit Shift-of.ended κs) → shift_of_reads.Post κs a r s → shift_of_reads.Post κs a r' s' → r ≡ r'
shift_of_unique κs a r r' s s' p q = p ∙ sym q

pub letter_of_unique : (κs : Lfts 0) (a : ArgsD letter_of.signature κs) (r r' : ResD letter_of.signature κs) (s s' : AtExit letter_of.ended κs) → letter_of_reads.Post κs a r s → letter_of_reads.Post κs a r' s' → r ≡ r'
letter_of_unique κs a r r' s s' p q = p ∙ sym q

pub utm_row_unique : (κs : Lfts 0) (a : ArgsD utm_row.signature κs) (r r' : ResD utm_row.signature κs) (s s' : AtExit utm_row.ended κs) → utm_row_reads.Post κs a r s → utm_row_reads.Post κs a r' s' → r ≡ r'
utm_row_unique κs a r r' s s' p q = p ∙ sym q

pub utm_row_at_unique : (κs : Lfts 0) (a : ArgsD utm_row_at.signature κs) (r r' : ResD utm_row_at.signature κs) (s s' : AtExit utm_row_at.ended κs) → utm_row_at_reads.Post κs a r s → utm_row_at_reads.Post κs a r' s' → r ≡ r'
utm_row_at_unique κs a r r' s s' p q = p ∙ sym q
