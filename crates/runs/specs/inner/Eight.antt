-- How eight digits become a number, in three steps. No public answer speaks of this: that it is the number that they spell is proved. Assumes nothing.
use Rattle.std.specs.Prelude.{ℕ, ◌+◌, ◌*◌, ◌/◌}
use Rattle.std.specs.Int.Bits.{bit_and}

-- Of eight digits, 48 off each byte, the number that they spell: joined by twos, by fours, by eights.
unfoldable pub eight_of : ℕ → ℕ
eight_of w =
    let twos = bit_and (w * 10 + w / 256) 71777214294589695 in
    let fours = bit_and (twos * 100 + twos / 65536) 281470681808895 in
    bit_and fours 65535 * 10000 + fours / 4294967296
