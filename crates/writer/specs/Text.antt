-- The bytes of a reference: document 01, "Writing". Assumes nothing.
use Rattle.std.specs.Prelude.{cond, List, [], ◌∷◌, ◌++◌, ℕ, ℤ, pos}
use Rattle.std.specs.Int.Signed.{lt_z}
use Rattle.whole.specs.Floor.{fold}
use Rattle.runs.specs.Runs.{last_digits}
use Rattle.position.specs.declared.Parts.{Parts}

-- "UTM zones take two digits"; UPS, zone 0, takes none. The band letter follows: a bare zone has no more.
unfoldable pub head_text : ℤ → ℕ → List ℕ
head_text zone band = cond (lt_z zone (pos 1)) (band ∷ []) (last_digits 2 (fold zone) ++ (band ∷ []))

-- The column letter, the row letter and p digits of each axis; p is not negative here.
unfoldable pub block_text : Parts → List ℕ
block_text parts =
    let p = fold parts.p in
    parts.column ∷ parts.row ∷ (last_digits p parts.easting ++ last_digits p parts.northing)

unfoldable pub full_text : Parts → List ℕ
full_text parts = head_text parts.zone parts.band ++ block_text parts
