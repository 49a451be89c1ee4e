-- `lane::own_start` meets its contract.
use mathlib.Core.Path.{ap}
use Prim.Native.Nat.{ℕ, ◌*◌}
use native.Mathlib.Omega.{arith}
use Rattle.lane_input.proofs.Numbers.{product-bound}
use Rattle.lane.proofs.own_start.Goals as goal

pub overflow_mul-result : goal.overflow_mul-result
overflow_mul-result c = omega (arith, product-bound c.args.plans c.plan_size-size.result 64 17024 (omega (arith, c.requires)) c.plan_size-size.ensures.1)

pub overflow_mul-result-3 : goal.overflow_mul-result-3
overflow_mul-result-3 c = omega (arith, product-bound c.args.route (8 * c.args.stride) 64 512 (omega (arith, c.requires)) (omega (arith, c.requires)))

pub overflow_add-result : goal.overflow_add-result
overflow_add-result c = omega (arith, product-bound c.args.plans c.plan_size-size.result 64 17024 (omega (arith, c.requires)) c.plan_size-size.ensures.1, product-bound c.args.route (8 * c.args.stride) 64 512 (omega (arith, c.requires)) (omega (arith, c.requires)))

pub returns : goal.returns
returns c = let a = c.args in
    let e = ap (λ (n : ℕ). a.plans * n) c.plan_size-size.ensures.0 in
    (omega (arith, e), omega (arith, product-bound c.args.plans c.plan_size-size.result 64 17024 (omega (arith, c.requires)) c.plan_size-size.ensures.1, product-bound c.args.route (8 * c.args.stride) 64 512 (omega (arith, c.requires)) (omega (arith, c.requires))))
