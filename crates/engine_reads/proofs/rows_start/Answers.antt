-- `engine_reads::rows_start` meets its contract.
use Prim.Native.Nat.{◌*◌, ◌≤◌}
use native.Mathlib.Omega.{arith}
use Rattle.config.specs.Sizes.{slots, most_frames, most_stride}
use Rattle.layout.proofs.Bounds.{product-bound}
use Rattle.engine_reads.proofs.rows_start.Goals as goal

pub overflow_mul-result : goal.overflow_mul-result
overflow_mul-result c = omega (arith, product-bound c.args.stride c.args.frames most_stride most_frames (omega arith) (omega arith))

pub overflow_mul-result-2 : goal.overflow_mul-result-2
overflow_mul-result-2 c =
    let a = c.args in
    let p : a.stride * a.frames ≤ most_stride * most_frames = omega (arith, product-bound a.stride a.frames most_stride most_frames (omega arith) (omega arith)) in
    omega (arith, product-bound a.i (a.stride * a.frames) slots (most_stride * most_frames) (omega arith) p)
