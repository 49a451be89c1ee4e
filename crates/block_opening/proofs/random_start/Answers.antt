-- `block_opening::random_start` meets its contract.
use mathlib.Core.Path.{ap}
use Prim.Native.Nat.{ℕ, ◌+◌, ◌*◌}
use native.Mathlib.Omega.{arith}
use Rattle.layout.proofs.Bounds.{product-bound}
use Rattle.block_opening.proofs.random_start.Goals as goal

pub overflow_mul-result : goal.overflow_mul-result
overflow_mul-result c = omega (arith, product-bound c.args.plans c.plan_size.result 64 17024 (omega (arith, c.requires)) c.plan_size.ensures.1)

pub overflow_mul-result-3 : goal.overflow_mul-result-3
overflow_mul-result-3 c = omega (arith, product-bound c.args.r (8 * c.args.stride) 64 512 (omega (arith, c.requires)) (omega (arith, c.requires)))

pub overflow_add-result : goal.overflow_add-result
overflow_add-result c = omega (arith, product-bound c.args.plans c.plan_size.result 64 17024 (omega (arith, c.requires)) c.plan_size.ensures.1, product-bound c.args.r (8 * c.args.stride) 64 512 (omega (arith, c.requires)) (omega (arith, c.requires)))

pub overflow_add-result-2 : goal.overflow_add-result-2
overflow_add-result-2 c = omega (arith, product-bound c.args.plans c.plan_size.result 64 17024 (omega (arith, c.requires)) c.plan_size.ensures.1, product-bound c.args.r (8 * c.args.stride) 64 512 (omega (arith, c.requires)) (omega (arith, c.requires)))

pub returns : goal.returns
returns c = ap (λ (k : ℕ). c.args.plans * k + (c.args.r * (8 * c.args.stride) + 2 * c.args.stride)) c.plan_size.ensures.0
