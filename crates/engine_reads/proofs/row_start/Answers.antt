-- `engine_reads::row_start` meets its contract.
use native.Mathlib.Omega.{arith}
use Rattle.config.specs.Sizes.{most_frames, most_stride}
use Rattle.layout.proofs.Bounds.{product-bound}
use Rattle.engine_reads.proofs.row_start.Goals as goal

pub overflow_mul-result : goal.overflow_mul-result
overflow_mul-result c = omega (arith, product-bound c.args.k c.args.width most_frames most_stride (omega arith) (omega arith))

pub overflow_add-result : goal.overflow_add-result
overflow_add-result c = omega (arith, product-bound c.args.k c.args.width most_frames most_stride (omega arith) (omega arith))
