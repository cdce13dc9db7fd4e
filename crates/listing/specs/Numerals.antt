-- "Numbers are decimal": document 01, "Listing program". Assumes nothing.
use Rattle.std.specs.Prelude.{cond, List, [], ◌∷◌, ◌++◌, ℕ, zero, suc, ◌+◌, ◌/◌, ◌%◌, ltb, ℤ, pos, negsuc}
use Prim.Native.Char.{code}

-- A digit's byte.
abbrev pub digit : ℕ → ℕ
digit d = code "0" + d

-- A number of at most k digits, with no zeros in front: its last digit stands after the number of the others.
unfoldable pub numeral : ℕ → ℕ → List ℕ
numeral zero n = []
numeral (suc k) n = cond (ltb n 10) (digit n ∷ []) (numeral k (n / 10) ++ (digit (n % 10) ∷ []))

-- Twenty digits hold every number of 64 bits.
abbrev pub decimal : ℕ → List ℕ
decimal n = numeral 20 n

-- A signed number; -(n + 1) is `negsuc n`.
unfoldable pub signed : ℤ → List ℕ
signed (pos n) = decimal n
signed (negsuc n) = code "-" ∷ decimal (n + 1)
