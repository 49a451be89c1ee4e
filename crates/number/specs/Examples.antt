-- The definitions, computed.
use Rattle.std.specs.Prelude.{◌≡◌, true, false, pos, negsuc, refl}
use Rattle.std.specs.Float.{nan, inf, fin, binary32}
use Rattle.std.specs.Float.Ieee.{lt, eq, is_nan, of_bits, to_unsigned, of_int}
use Rattle.number.specs.Number.{zero32, half32, one32, two32, max32, min32, hold, clamp_to, whole_part, nearest32}
use Rattle.number.specs.Number.{sticky, same}
use Rattle.number.specs.Same.{◌≈◌, equal, zeros}

-- the constants are the numbers that they are named for
constants : (of_bits binary32 0 ≡ zero32) × (of_bits binary32 0x3f00_0000 ≡ half32)
    × (of_bits binary32 0x3f80_0000 ≡ one32) × (of_bits binary32 0x4000_0000 ≡ two32)
unfolding of_bits
constants = (refl, refl, refl, refl)

-- a NaN loses on either side; of two zeros the left one is answered
max-nan : (max32 nan one32 ≡ one32) × (max32 one32 nan ≡ one32)
    × (max32 (fin true 0 (pos 0)) zero32 ≡ fin true 0 (pos 0))
unfolding max32 is_nan lt
max-nan = (refl, refl, refl)

min-nan : (min32 nan one32 ≡ one32) × (min32 one32 nan ≡ one32) × (min32 (inf false) one32 ≡ one32)
unfolding min32 is_nan lt
min-nan = (refl, refl, refl)

-- a NaN is held to the lower bound, also where that is an infinity
hold-nan : (hold zero32 one32 nan ≡ zero32) × (hold (inf true) (inf false) nan ≡ inf true)
    × (hold zero32 one32 two32 ≡ one32)
unfolding hold is_nan lt
hold-nan = (refl, refl, refl)

-- Rust's clamp keeps a NaN and the sign of a zero
clamp-keeps : (clamp_to zero32 one32 nan ≡ nan) × (clamp_to zero32 one32 (fin true 0 (pos 0)) ≡ fin true 0 (pos 0))
    × (clamp_to zero32 one32 (inf false) ≡ one32)
unfolding clamp_to lt
clamp-keeps = (refl, refl, refl)

-- 383.5, -0.9, a NaN and an infinity
whole_parts : (whole_part (fin false 767 (negsuc 0)) ≡ 383) × (whole_part (fin true 15099494 (negsuc 23)) ≡ 0)
    × (whole_part nan ≡ 0) × (whole_part (inf false) ≡ 18446744073709551615)
unfolding to_unsigned
whole_parts = (refl, refl, refl, refl)

-- 2^24 + 1 lies between two numbers: the even one; 2^64 - 1 is nearest to 2^64
nearest : (nearest32 16777217 ≡ fin false 1 (pos 24)) × (nearest32 16777219 ≡ fin false 4194305 (pos 2))
    × (nearest32 18446744073709551615 ≡ fin false 1 (pos 64))
unfolding of_int
nearest = (refl, refl, refl)

-- 2^48 + 2^24 is half way between two numbers, and one more is not
nearest-high : (nearest32 281474993487872 ≡ fin false 1 (pos 48))
    × (nearest32 281474993487873 ≡ fin false 8388609 (pos 25))
unfolding of_int
nearest-high = (refl, refl)

-- 2^48, one more, 2^48 + 2^16, and one more
sticky-digit : (sticky 281474976710656 ≡ 4294967296) × (sticky 281474976710657 ≡ 4294967297)
    × (sticky 281474976776192 ≡ 4294967297) × (sticky 281474976776193 ≡ 4294967297)
unfolding sticky
sticky-digit = (refl, refl, refl, refl)

-- NaN equals NaN, the zeros are equal, and nothing else is equal to another
compared : (same nan nan ≡ true) × (same zero32 (fin true 0 (pos 0)) ≡ true) × (same nan zero32 ≡ false)
    × (same (inf true) (inf false) ≡ false)
unfolding same is_nan eq
compared = (refl, refl, refl, refl)

related : (nan ≈ nan) × (zero32 ≈ fin true 0 (pos 0)) × (one32 ≈ one32)
related = (equal, zeros, equal)

unrelated : inf true ≈ inf false → ⊥
unrelated h = elim h [ ]
