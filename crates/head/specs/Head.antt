-- The text up to its band letter, refusals 1 to 6 in their order: document 01, "Reading bytes". Assumes nothing.
use Rattle.std.specs.Prelude.{Bool, true, false, cond, ◌&&◌, List, ℕ, ◌+◌, eqb, ltb, leb, pos, length, get_or, Result, Ok, Err}
use Prim.Native.Char.{code}
use Rattle.letters.specs.Letters.{capital_of, place_of, by_place}
use Rattle.bands.specs.Bands.{bands_of}
use Rattle.runs.specs.declared.Lead.{Lead}
use Rattle.words.specs.Bytes.{has_high}
use Rattle.runs.specs.Runs.{lead_of}
use Rattle.rules.specs.declared.Refusal.{Refusal}
use Rattle.rules.specs.declared.Refusal.TheVariants.{HighByte, Inv, WrongZone, LongZone, NoBand, WrongBand}
use Rattle.head.specs.declared.Head.{Head}

-- "a-z count as A-Z": the letter at a place of the text.
abbrev pub letter_in : List ℕ → ℕ → ℕ
letter_in s i = capital_of (get_or s i 0)

-- "the first three bytes are INV"
unfoldable pub inv_letters : ℕ → ℕ → ℕ → Bool
inv_letters a b c = eqb a (code "I") && (eqb b (code "N") && eqb c (code "V"))

unfoldable pub is_inv : List ℕ → Bool
is_inv s = cond (ltb (length s) 3) false (inv_letters (letter_in s 0) (letter_in s 1) (letter_in s 2))

-- "there are leading digits and their value is not 1..60"
unfoldable pub zone_wrong : Lead → Bool
zone_wrong lead = cond (eqb lead.count 0) false (cond (eqb lead.value 0) true (ltb 60 lead.value))

-- The zone is the value of the leading digits, 0 where there are none; the band letter follows them.
unfoldable pub head_of : List ℕ → Result Head Refusal
head_of s =
    let lead = lead_of s in
    let zone = pos lead.value in
    let band = letter_in s lead.count in
    cond (has_high s) (Err HighByte)  -- "a byte of 128 or more stands anywhere"
    (cond (is_inv s) (Err Inv)  -- "the first three bytes are INV"
    (cond (zone_wrong lead) (Err WrongZone)  -- "there are leading digits and their value is not 1..60"
    (cond (ltb 2 lead.count) (Err LongZone)  -- "there are more than two leading digits"
    (cond (leb (length s) lead.count) (Err NoBand)  -- "nothing follows the zone"
    (by_place (place_of (bands_of zone) band) (Err WrongBand)  -- "the band letter is not in its set"
    (λ k. Ok (record { zone = zone; band = band; next = lead.count + 1 })))))))
