-- `audio_rows::audio_at` meets its contract.
use mathlib.Core.Path.{refl}
use Prim.Native.Nat.{◌*◌}
use native.Mathlib.Omega.{arith}
use Rattle.lane_input.proofs.Numbers.{product-bound}
use Rattle.audio_rows.proofs.audio_at.Goals as goal

pub overflow_mul-result : goal.overflow_mul-result
overflow_mul-result c = let p = c.requires in
    omega (arith, product-bound c.args.stride c.args.frames 64 4096 p.0 p.1)

pub overflow_mul-result-2 : goal.overflow_mul-result-2
overflow_mul-result-2 c = let p = c.requires in
    omega (arith, product-bound c.args.d (c.args.stride * c.args.frames) 63 262144 (omega arith) (omega (arith, product-bound c.args.stride c.args.frames 64 4096 p.0 p.1)))

pub overflow_mul-result-3 : goal.overflow_mul-result-3
overflow_mul-result-3 c = let p = c.requires in
    omega (arith, product-bound c.args.k c.args.width 4096 64 p.4 p.3)

pub overflow_add-result : goal.overflow_add-result
overflow_add-result c = let p = c.requires in
    omega (arith, product-bound c.args.d (c.args.stride * c.args.frames) 63 262144 (omega arith) (omega (arith, product-bound c.args.stride c.args.frames 64 4096 p.0 p.1)), product-bound c.args.k c.args.width 4096 64 p.4 p.3)

pub returns : goal.returns
returns c = let p = c.requires in
    (refl, omega (arith, product-bound c.args.d (c.args.stride * c.args.frames) 63 262144 (omega arith) (omega (arith, product-bound c.args.stride c.args.frames 64 4096 p.0 p.1)), product-bound c.args.k c.args.width 4096 64 p.4 p.3))
