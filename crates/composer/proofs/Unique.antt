-- Two answers that meet the call's promise are equal: over the contract itself. Assumes nothing.
use mathlib.Core.Path.{◌≡◌, sym, ◌∙◌}
use contract.Lifetimes.{Lfts}
use borrow.Fn.World.{ArgsD, ResD}
use denote.Triple.Clauses.{AtExit}
use Rattle.composer.specs.contracts.compose as compose
use Rattle.composer.proofs.compose.Reads as compose_reads

pub compose_unique : (κs : Lfts 0) (a : ArgsD compose.signature κs) (r r' : ResD compose.signature κs) (s s' : AtExit compose.ended κs) → compose_reads.Post κs a r s → compose_reads.Post κs a r' s' → r ≡ r'
compose_unique κs a r r' s s' p q = p ∙ sym q
