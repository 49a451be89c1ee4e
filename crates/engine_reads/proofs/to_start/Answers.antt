-- `engine_reads::to_start` meets its contract.
use Prim.Native.Nat.{◌+◌}
use native.Mathlib.Omega.{arith}
use Rattle.config.specs.Sizes.{slots, most_frames, most_stride, most_chunks}
use Rattle.layout.proofs.Bounds.{product-bound}
use Rattle.model.specs.Layout.{plan_size}
use Rattle.engine_reads.proofs.to_start.Goals as goal

pub overflow_mul-result : goal.overflow_mul-result
overflow_mul-result c = omega (arith, product-bound c.args.i c.plan_size.result slots (plan_size most_stride (most_chunks most_frames)) (omega arith) (omega arith))

pub overflow_add-result-2 : goal.overflow_add-result-2
overflow_add-result-2 c =
    let a = c.args in
    omega (arith, product-bound a.i c.plan_size.result slots (plan_size most_stride (most_chunks most_frames)) (omega arith) (omega arith), product-bound (2 + a.chunks) a.stride (2 + most_chunks most_frames) most_stride (omega arith) (omega arith))

pub returns : goal.returns
returns c = rw c.plan_size.ensures.0
