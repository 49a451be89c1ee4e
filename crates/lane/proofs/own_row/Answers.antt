-- `lane::own_row` meets its contract.
use native.Mathlib.Omega.{arith}
use Rattle.lane_input.proofs.Numbers.{product-bound}
use Rattle.lane.proofs.own_row.Goals as goal

pub overflow_mul-result : goal.overflow_mul-result
overflow_mul-result c = omega (arith, product-bound c.args.q c.args.stride 3 64 (omega (arith, c.requires)) (omega (arith, c.requires)))

pub overflow_add-result : goal.overflow_add-result
overflow_add-result c = omega (arith, product-bound c.args.q c.args.stride 3 64 (omega (arith, c.requires)) (omega (arith, c.requires)))
