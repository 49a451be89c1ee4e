-- `block_opening::held_need` meets its contract.
use native.Mathlib.Omega.{arith}
use Rattle.layout.proofs.Bounds.{product-bound, stride-bound}
use Rattle.block_opening.proofs.held_need.Goals as goal

pub overflow_mul-result : goal.overflow_mul-result
overflow_mul-result c =
    let s = c.lane_stride in
    let k = c.at_most.ensures in
    omega (arith, product-bound s.result c.at_most.result 64 128 (rw s.ensures (stride-bound _)) (omega (arith, k)))

pub returns : goal.returns
returns c = rw (c.lane_stride.ensures, c.at_most.ensures)
