-- The lowest and the highest row of each latitude band: document 01, "Allowed UTM rows". Assumes nothing.
use Rattle.std.specs.Prelude.{cond, List, [], ◌∷◌, ℕ, eqb, ℤ, pos, negsuc, get_or}
use Rattle.rows.specs.declared.Limits.{Limits}

-- Two rows, l-h.
abbrev pub l_h : ℕ → ℕ → Limits
l_h l h = record { low = pos l; high = pos h }

-- 0 to -1, which hold no row: for a band that does not exist.
abbrev pub no_rows : Limits
no_rows = record { low = pos 0; high = negsuc 0 }

-- "Bands 0..9: 0-8, 8-17, 17-26, 26-35, 35-44, 44-53, 53-62, 62-70, 71-79, 80-94."
abbrev pub northern : List Limits
northern =
    l_h 0 8
    ∷ l_h 8 17
    ∷ l_h 17 26
    ∷ l_h 26 35
    ∷ l_h 35 44
    ∷ l_h 44 53
    ∷ l_h 53 62
    ∷ l_h 62 70
    ∷ l_h 71 79
    ∷ l_h 80 94
    ∷ []

-- "limits l-h become -h-1 to -l-1": of v that is -v-1, and -(v + 1) is `negsuc v`.
abbrev pub mirror : ℤ → ℤ
mirror (pos v) = negsuc v
mirror (negsuc v) = pos v

abbrev pub mirrored : Limits → Limits
mirrored l = record { low = mirror l.high; high = mirror l.low }

-- "Band b below 0 mirrors band -b-1 ..; but band -10 is -90 to -81."
unfoldable pub limits_of : ℤ → Limits
limits_of (pos b) = get_or northern b no_rows
limits_of (negsuc b) = cond (eqb b 9) (record { low = negsuc 89; high = negsuc 80 }) (mirrored (get_or northern b no_rows))
