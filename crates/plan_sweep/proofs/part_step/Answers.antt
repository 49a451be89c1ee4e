-- `plan_sweep::part_step` meets its contract.
use native.Mathlib.Omega.{arith}
use Rattle.lane_input.proofs.Numbers.{product-bound}
use Rattle.plan_sweep.proofs.part_step.Goals as goal

pub overflow_mul-rows : goal.overflow_mul-rows
overflow_mul-rows c = let a = c.args in
    omega (arith, product-bound a.up_to c.part_stride-wide.result 4096 256 c.requires c.if-wide-gt-SIGNAL_STRIDE.false)
