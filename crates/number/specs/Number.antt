-- Single numbers of 32 bits, over the kit's account of IEEE 754 (lib.Ieee). Definitions only.
use Rattle.std.specs.Prelude.{ℕ, ◌+◌, ◌*◌, ◌/◌, ◌%◌, ◌^◌, Bool, true, false, cond, ◌||◌, pos, negsuc, ◌==◌, is_nan}
use Rattle.std.specs.Prelude.{Float}
use Rattle.std.specs.Float.{nan, inf, fin, binary32}
use Rattle.std.specs.Float.Ieee.{add, sub, mul, div, lt, eq, to_unsigned, of_int}

abbrev pub zero32 : Float
zero32 = fin false 0 (pos 0)

abbrev pub half32 : Float
half32 = fin false 1 (negsuc 0)

abbrev pub one32 : Float
one32 = fin false 1 (pos 0)

abbrev pub two32 : Float
two32 = fin false 1 (pos 1)

-- binary32's operations, each rounded once (IEEE 754-2019; document 01, opening: no fused operation)
abbrev pub plus : Float → Float → Float
plus x y = add binary32 x y

abbrev pub less : Float → Float → Float
less x y = sub binary32 x y

abbrev pub times : Float → Float → Float
times x y = mul binary32 x y

abbrev pub over : Float → Float → Float
over x y = div binary32 x y

-- neither a NaN nor an infinity (document 01, row 6)
unfoldable pub finite : Float → Bool
finite nan = false
finite (inf s) = false
finite (fin s m e) = true

-- document 01, opening: max(a, b) is b when a is NaN or a < b, else a
unfoldable pub max32 : Float → Float → Float
max32 a b = cond (is_nan a || lt a b) b a

-- document 01, opening: min(a, b) is b when a is NaN or b < a, else a
unfoldable pub min32 : Float → Float → Float
min32 a b = cond (is_nan a || lt b a) b a

-- a value held to its destination's bounds: max with the lower, then min with the upper (engine.rs 908, 915, 921, 1195)
unfoldable pub hold : Float → Float → Float → Float
unfolding max32 min32
hold lo hi x = min32 (max32 x lo) hi

-- Rust's f32::clamp: a NaN stays, and so does the sign of a zero (curve.rs 140; engine.rs 430, 437)
unfoldable pub clamp_to : Float → Float → Float → Float
clamp_to lo hi x = cond (lt x lo) lo (cond (lt hi x) hi x)

-- Rust's f32::abs: the sign is dropped (engine.rs 707, 737)
unfoldable pub abs_of : Float → Float
abs_of nan = nan
abs_of (inf s) = inf false
abs_of (fin s m e) = fin false m e

-- Rust's `as usize` of a float: the whole part, 0 for a NaN and below 1, the largest number beyond the range (curve.rs
-- 141)
abbrev pub whole_part : Float → ℕ
whole_part x = to_unsigned 64 x

-- Rust's `as f32` of a whole number of 64 bits: the nearest binary32 (engine.rs 581; document 01, Chunk and value:
-- load)
abbrev pub nearest32 : ℕ → Float
nearest32 n = of_int binary32 (pos n)

-- n in units of 2 ^ 16, on the way to its nearest binary32. The last digit stands for the lower 17 of n: it is 0 where
-- they are all 0
unfoldable pub sticky : ℕ → ℕ
sticky n = n / 2 ^ 17 * 2 + cond (n % 2 ^ 17 == 0) 0 1

-- document 01, opening: numbers compare by bits, except that NaN equals NaN and the two zeros are equal
unfoldable pub same : Float → Float → Bool
same nan y = is_nan y
same (inf s) y = eq (inf s) y
same (fin s m e) y = eq (fin s m e) y
