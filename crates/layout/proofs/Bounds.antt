-- Bounds of products and of the lane stride. Assumes nothing.
use Prim.Native.Nat.{ℕ, ◌*◌, ◌≤◌, min}
use native.Mathlib.Nat.{le_trans, mul-le-mul_left, mul-le-mul_right}
use native.Mathlib.Omega.{arith}
use Rattle.config.specs.Sizes.{most_voices, lane_stride, most_stride}

pub product-bound : (a b m n : ℕ) → a ≤ m → b ≤ n → a * b ≤ m * n
product-bound a b m n h k = le_trans (mul-le-mul_right b h) (mul-le-mul_left m k)

pub stride-bound : (v : ℕ) → lane_stride (min v most_voices) ≤ most_stride
stride-bound v = omega arith
