-- `block_opening::plan_start` meets its contract.
use mathlib.Core.Path.{ap}
use Prim.Native.Nat.{ℕ, ◌*◌}
use native.Mathlib.Omega.{arith}
use Rattle.layout.proofs.Bounds.{product-bound}
use Rattle.block_opening.proofs.plan_start.Goals as goal

pub overflow_mul-result : goal.overflow_mul-result
overflow_mul-result c = omega (arith, product-bound c.args.d c.plan_size.result 64 17024 (omega (arith, c.requires)) c.plan_size.ensures.1)

pub returns : goal.returns
returns c = (ap (λ (k : ℕ). c.args.d * k) c.plan_size.ensures.0, product-bound c.args.d c.plan_size.result 64 17024 (omega (arith, c.requires)) c.plan_size.ensures.1)
