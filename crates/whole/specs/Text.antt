-- A quoted text as the list of its bytes, so that a definition shows "CDEFGHJKLMNPQRSTUVWX" and not twenty numbers.
-- Assumes nothing.
use Rattle.std.specs.Prelude.{List, [], ◌∷◌, ℕ}
use Prim.Native.Char.{code}
use Prim.Native.String.{String, [] as []ₛ, ◌∷◌ as ◌∷ₛ◌}

-- The bytes of an ASCII text, in order.
abbrev pub bytes : String → List ℕ
bytes []ₛ = []
bytes (c ∷ₛ s) = code c ∷ bytes s
