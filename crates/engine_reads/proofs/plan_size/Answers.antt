-- `engine_reads::plan_size` meets its contract.
use mathlib.Core.Path.{refl}
use Prim.Native.Nat.{◌+◌, ◌*◌}
use native.Mathlib.Omega.{arith}
use Rattle.config.specs.Sizes.{most_frames, most_stride, most_chunks}
use Rattle.layout.proofs.Bounds.{product-bound}
use Rattle.engine_reads.proofs.plan_size.Goals as goal

pub overflow_mul-result-2 : goal.overflow_mul-result-2
overflow_mul-result-2 c = omega (arith, product-bound c.args.stride (2 * c.args.chunks + 6) most_stride (2 * most_chunks most_frames + 6) (omega arith) (omega arith))

pub returns : goal.returns
returns c = (refl, omega (arith, product-bound c.args.stride (2 * c.args.chunks + 6) most_stride (2 * most_chunks most_frames + 6) (omega arith) (omega arith)))
