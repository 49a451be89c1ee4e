-- `plan_turning::plan_from` meets its contract.
use mathlib.Core.Path.{ap}
use Prim.Native.Nat.{ℕ, ◌*◌}
use native.Mathlib.Omega.{arith}
use Rattle.lane_input.proofs.Numbers.{product-bound}
use Rattle.plan_turning.proofs.plan_from.Goals as goal

pub overflow_mul-result : goal.overflow_mul-result
overflow_mul-result c = omega (arith, product-bound c.args.d c.plan_size-size.result 64 17024 (omega (arith, c.requires)) c.plan_size-size.ensures.1)

pub returns : goal.returns
returns c = let d = c.args.d in (
  ap (λ (n : ℕ). d * n) c.plan_size-size.ensures.0,
  omega (arith, product-bound c.args.d c.plan_size-size.result 64 17024 (omega (arith, c.requires)) c.plan_size-size.ensures.1),
)
