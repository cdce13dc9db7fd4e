-- Powers of ten up to the eleventh: "Precision p is digits per axis, 0 to 11". Assumes nothing.
use Rattle.std.specs.Prelude.{cond, ℕ, ◌^◌, ltb}

-- 10 to the k-th for k up to 11, and 0 above.
unfoldable pub power_of_ten : ℕ → ℕ
power_of_ten k = cond (ltb 11 k) 0 (10 ^ k)
