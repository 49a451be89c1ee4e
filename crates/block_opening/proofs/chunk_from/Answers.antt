-- `block_opening::chunk_from` meets its contract.
use native.Mathlib.Omega.{arith}
use Rattle.layout.proofs.Bounds.{product-bound}
use Rattle.block_opening.proofs.chunk_from.Goals as goal

pub overflow_mul-result-2 : goal.overflow_mul-result-2
overflow_mul-result-2 c = omega (arith, product-bound c.args.i c.args.w 130 64 (omega (arith, c.requires)) (omega (arith, c.requires)))

pub overflow_add-result : goal.overflow_add-result
overflow_add-result c = omega (arith, product-bound c.args.i c.args.w 130 64 (omega (arith, c.requires)) (omega (arith, c.requires)))

pub overflow_add-result-2 : goal.overflow_add-result-2
overflow_add-result-2 c = omega (arith, product-bound c.args.i c.args.w 130 64 (omega (arith, c.requires)) (omega (arith, c.requires)))
