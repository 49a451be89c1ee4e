-- `block_opening::chunk_to` meets its contract.
use Prim.Native.Nat.{◌+◌}
use native.Mathlib.Omega.{arith}
use Rattle.layout.proofs.Bounds.{product-bound}
use Rattle.block_opening.proofs.chunk_to.Goals as goal

pub overflow_mul-result : goal.overflow_mul-result
overflow_mul-result c = omega (arith, product-bound (2 + c.args.chunks) c.args.stride 132 64 (omega (arith, c.requires)) (omega (arith, c.requires)))

pub overflow_mul-result-2 : goal.overflow_mul-result-2
overflow_mul-result-2 c = omega (arith, product-bound c.args.i c.args.w 130 64 (omega (arith, c.requires)) (omega (arith, c.requires)))

pub overflow_add-result-2 : goal.overflow_add-result-2
overflow_add-result-2 c = omega (arith, product-bound c.args.i c.args.w 130 64 (omega (arith, c.requires)) (omega (arith, c.requires)), product-bound (2 + c.args.chunks) c.args.stride 132 64 (omega (arith, c.requires)) (omega (arith, c.requires)))

pub overflow_add-result-3 : goal.overflow_add-result-3
overflow_add-result-3 c = omega (arith, product-bound c.args.i c.args.w 130 64 (omega (arith, c.requires)) (omega (arith, c.requires)), product-bound (2 + c.args.chunks) c.args.stride 132 64 (omega (arith, c.requires)) (omega (arith, c.requires)))
