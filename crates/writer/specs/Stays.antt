-- "A refusal alters no lent byte.": what the theorems say of each call that is lent something. Assumes nothing.
use Rattle.std.specs.Prelude.{◌≡◌}

-- Of a call's answer and of what it was lent, before and after: where the answer is a refusal, by whatever number, nothing
-- is altered.
abbrev pub Stays : {R A B : Type 0} → (R → A) → A → B → B → Type 0
Stays {R} refused answer before after = (k : R) → answer ≡ refused k → after ≡ before
