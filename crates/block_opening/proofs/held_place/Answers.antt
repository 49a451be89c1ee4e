-- `block_opening::held_place` meets its contract.
use native.Mathlib.Omega.{arith}
use Rattle.layout.proofs.Bounds.{product-bound}
use Rattle.block_opening.proofs.held_place.Goals as goal

pub overflow_mul-result : goal.overflow_mul-result
overflow_mul-result c = omega (arith, product-bound c.args.i c.args.stride 128 64 (omega (arith, c.requires)) (omega (arith, c.requires)))

pub overflow_add-result : goal.overflow_add-result
overflow_add-result c = omega (arith, product-bound c.args.i c.args.stride 128 64 (omega (arith, c.requires)) (omega (arith, c.requires)))
