-- Bounds on the product that the held memory takes. Assumes nothing.
use mathlib.Core.Path.{◌≡◌}
use Prim.Native.Nat.{ℕ, ◌*◌, ◌≤◌, min}
use native.Mathlib.Omega.{arith}
use Rattle.config.specs.Sizes.{lane_stride, most_voices, most_sources}
use Rattle.layout.proofs.Bounds.{product-bound, stride-bound}

pub held-bound : (voices n s k : ℕ) → s ≡ lane_stride (min voices most_voices) → k ≡ min n most_sources → s * k ≤ 8192
held-bound voices n s k hs hk = product-bound s k 64 128 (rw hs (stride-bound voices)) (omega arith)
