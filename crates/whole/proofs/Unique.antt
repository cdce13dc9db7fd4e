-- Two answers that meet a call's promise are equal: one lemma for each public call, over the contract itself.
-- Assumes nothing.
use mathlib.Core.Path.{◌≡◌, sym, ◌∙◌}
use contract.Lifetimes.{Lfts}
use borrow.Fn.World.{ArgsD, ResD}
use denote.Triple.Clauses.{AtExit}
use Rattle.whole.specs.contracts.is_outside as is_outside
use Rattle.whole.proofs.is_outside.Reads as is_outside_reads
use Rattle.whole.specs.contracts.fold_of as fold_of
use Rattle.whole.proofs.fold_of.Reads as fold_of_reads
use Rattle.whole.specs.contracts.floor_div as floor_div
use Rattle.whole.proofs.floor_div.Reads as floor_div_reads
use Rattle.whole.specs.contracts.floor_mod as floor_mod
use Rattle.whole.proofs.floor_mod.Reads as floor_mod_reads
use Rattle.whole.specs.contracts.power_of_ten as power_of_ten
use Rattle.whole.proofs.power_of_ten.Reads as power_of_ten_reads

pub is_outside_unique : (κs : Lfts 0) (a : ArgsD is_outside.signature κs) (r r' : ResD is_outside.signature κs) (s s' : AtExit is_outside.ended κs) → is_outside_reads.Post κs a r s → is_outside_reads.Post κs a r' s' → r ≡ r'
is_outside_unique κs a r r' s s' p q = p ∙ sym q

pub fold_of_unique : (κs : Lfts 0) (a : ArgsD fold_of.signature κs) (r r' : ResD fold_of.signature κs) (s s' : AtExit fold_of.ended κs) → fold_of_reads.Post κs a r s → fold_of_reads.Post κs a r' s' → r ≡ r'
fold_of_unique κs a r r' s s' p q = p ∙ sym q

pub floor_div_unique : (κs : Lfts 0) (a : ArgsD floor_div.signature κs) (r r' : ResD floor_div.signature κs) (s s' : AtExit floor_div.ended κs) → floor_div_reads.Post κs a r s → floor_div_reads.Post κs a r' s' → r ≡ r'
floor_div_unique κs a r r' s s' p q = p ∙ sym q

pub floor_mod_unique : (κs : Lfts 0) (a : ArgsD floor_mod.signature κs) (r r' : ResD floor_mod.signature κs) (s s' : AtExit floor_mod.ended κs) → floor_mod_reads.Post κs a r s → floor_mod_reads.Post κs a r' s' → r ≡ r'
floor_mod_unique κs a r r' s s' p q = p ∙ sym q

pub power_of_ten_unique : (κs : Lfts 0) (a : ArgsD power_of_ten.signature κs) (r r' : ResD power_of_ten.signature κs) (s s' : AtExit power_of_ten.ended κs) → power_of_ten_reads.Post κs a r s → power_of_ten_reads.Post κs a r' s' → r ≡ r'
power_of_ten_unique κs a r r' s s' p q = p ∙ sym q
