-- The count of a read, which is 0 where it failed. Assumes nothing.
use Rattle.std.proofs.Common.{◌≡◌, ℕ}
use Rattle.std.specs.Result.{IfOk, result_unwrap_or}
use Rattle.std.specs.declared.result.Result.{Result}
use Rattle.std.specs.declared.result.Result.TheVariants.{Ok, Err}

-- one that brought nothing, or failed
pub nothing : {E : Type 0} (r : Result ℕ E) (n : ℕ) → IfOk r (λ k. k ≡ 0) → n ≡ result_unwrap_or r 0 → n ≡ 0
nothing (Ok k) n h e = rw (e, h)
nothing (Err x) n h e = e
