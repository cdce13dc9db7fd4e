-- What a test that was passed leaves. Assumes nothing.
use mathlib.Core.Path.{◌≡◌, refl}
use mathlib.Core.Bool.{Bool, true, false, cond}

-- a test whose answer is another one was not met
pub past : {A : Type 0} (t : Bool) (x rest y : A) → (x ≡ y → ⊥) → cond t x rest ≡ y → (t ≡ false) × (rest ≡ y)
past true x rest y n e = absurd (n e)
past false x rest y n e = (refl, e)
