-- Two answers that meet a call's promise are equal: one lemma for each public call, over the contract itself.
-- Assumes nothing.
use mathlib.Core.Path.{◌≡◌, sym, ◌∙◌}
use contract.Lifetimes.{Lfts}
use borrow.Fn.World.{ArgsD, ResD}
use denote.Triple.Clauses.{AtExit}
use Rattle.words.specs.contracts.is_digit as is_digit
use Rattle.words.proofs.is_digit.Reads as is_digit_reads
use Rattle.words.specs.contracts.word as word
use Rattle.words.proofs.word.Reads as word_reads
use Rattle.words.specs.contracts.has_high as has_high
use Rattle.words.proofs.has_high.Reads as has_high_reads
use Rattle.words.specs.contracts.all_digits as all_digits
use Rattle.words.proofs.all_digits.Reads as all_digits_reads

pub is_digit_unique : (κs : Lfts 0) (a : ArgsD is_digit.signature κs) (r r' : ResD is_digit.signature κs) (s s' : AtExit is_digit.ended κs) → is_digit_reads.Post κs a r s → is_digit_reads.Post κs a r' s' → r ≡ r'
is_digit_unique κs a r r' s s' p q = p ∙ sym q

pub word_unique : (κs : Lfts 1) (a : ArgsD word.signature κs) (r r' : ResD word.signature κs) (s s' : AtExit word.ended κs) → word_reads.Post κs a r s → word_reads.Post κs a r' s' → r ≡ r'
word_unique κs a r r' s s' p q = p ∙ sym q

pub has_high_unique : (κs : Lfts 1) (a : ArgsD has_high.signature κs) (r r' : ResD has_high.signature κs) (s s' : AtExit has_high.ended κs) → has_high_reads.Post κs a r s → has_high_reads.Post κs a r' s' → r ≡ r'
has_high_unique κs a r r' s s' p q = p ∙ sym q

pub all_digits_unique : (κs : Lfts 1) (a : ArgsD all_digits.signature κs) (r r' : ResD all_digits.signature κs) (s s' : AtExit all_digits.ended κs) → all_digits_reads.Post κs a r s → all_digits_reads.Post κs a r' s' → r ≡ r'
all_digits_unique κs a r r' s s' p q = p ∙ sym q
