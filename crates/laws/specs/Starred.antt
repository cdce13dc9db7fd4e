-- Document 01, "References on each side of a rule": those with *, in its order, with its metres: read, in canonical form,
-- written. And every bare zone of one UTM zone, 31V and the four of UPS, by its formulas. Assumes nothing.
use Rattle.std.specs.Prelude.{true, false, List, [], ◌∷◌, Err}
use Prim.Native.Char.{code}
use Rattle.laws.specs.Tables.{Example, square, bare, reads, writes, returns}
use Rattle.rules.specs.declared.Refusal.TheVariants.{LongZone, NoAllowedRow}

abbrev pub starred : List Example
starred =
    reads "18TWL856641113154" (square 18 true (code "T") 6 58566415 451131545)
    ∷ reads "YXL6143481146" (square 0 true (code "Y") 5 176143450 238114650)
    ∷ reads "4qfj" (square 4 true (code "Q") 0 65000000 235000000)
    ∷ returns "4qfj" "04QFJ"
    ∷ reads "31V" (bare 31 true (code "V") 400000 6700000)
    ∷ reads "31WCL" (square 31 true (code "W") 0 35000000 705000000)
    ∷ reads "31WBL" (Err NoAllowedRow)  -- 10
    ∷ reads "31VCM" (square 31 true (code "V") 0 35000000 715000000)
    ∷ reads "31VDM" (Err NoAllowedRow)  -- 10
    ∷ reads "018T" (Err LongZone)  -- 4
    ∷ reads "18TWA" (Err NoAllowedRow)  -- 10
    ∷ writes 18 true 5 900000 4500000 (code "T") "18TZL9999900000"
    ∷ writes 18 false 5 500000 10000000 (code "M") "18MWE0000099999"
    ∷ []

-- "northing in tiles floor((160k - 1511)/18), k = 0..19 for C..X, plus 100 in the south", a tile being 100,000 m.
abbrev pub bare_zones : List Example
bare_zones =
    reads "18C" (bare 18 false (code "C") 500000 1600000)
    ∷ reads "18D" (bare 18 false (code "D") 500000 2400000)
    ∷ reads "18E" (bare 18 false (code "E") 500000 3300000)
    ∷ reads "18F" (bare 18 false (code "F") 500000 4200000)
    ∷ reads "18G" (bare 18 false (code "G") 500000 5100000)
    ∷ reads "18H" (bare 18 false (code "H") 500000 6000000)
    ∷ reads "18J" (bare 18 false (code "J") 500000 6900000)
    ∷ reads "18K" (bare 18 false (code "K") 500000 7800000)
    ∷ reads "18L" (bare 18 false (code "L") 500000 8700000)
    ∷ reads "18M" (bare 18 false (code "M") 500000 9600000)
    ∷ reads "18N" (bare 18 true (code "N") 500000 400000)
    ∷ reads "18P" (bare 18 true (code "P") 500000 1300000)
    ∷ reads "18Q" (bare 18 true (code "Q") 500000 2200000)
    ∷ reads "18R" (bare 18 true (code "R") 500000 3100000)
    ∷ reads "18S" (bare 18 true (code "S") 500000 4000000)
    ∷ reads "18T" (bare 18 true (code "T") 500000 4900000)
    ∷ reads "18U" (bare 18 true (code "U") 500000 5800000)
    ∷ reads "18V" (bare 18 true (code "V") 500000 6700000)
    ∷ reads "18W" (bare 18 true (code "W") 500000 7600000)
    ∷ reads "18X" (bare 18 true (code "X") 500000 8400000)
    ∷ reads "31V" (bare 31 true (code "V") 400000 6700000)
    ∷ reads "A" (bare 0 false (code "A") 1600000 2000000)
    ∷ reads "B" (bare 0 false (code "B") 2400000 2000000)
    ∷ reads "Y" (bare 0 true (code "Y") 1600000 2000000)
    ∷ reads "Z" (bare 0 true (code "Z") 2400000 2000000)
    ∷ []
