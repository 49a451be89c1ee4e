-- `lane_input::plan_size` meets its contract.
use mathlib.Core.Path.{refl}
use Prim.Native.Nat.{◌+◌, ◌*◌}
use native.Mathlib.Omega.{arith}
use Rattle.lane_input.proofs.Numbers.{product-bound}
use Rattle.lane_input.proofs.plan_size.Goals as goal

pub overflow_mul-result-2 : goal.overflow_mul-result-2
overflow_mul-result-2 c = omega (arith, product-bound c.args.stride (2 * c.args.chunks + 6) 64 266 (omega (arith, c.requires)) (omega (arith, c.requires)))

pub returns : goal.returns
returns c = (refl, product-bound c.args.stride (2 * c.args.chunks + 6) 64 266 (omega (arith, c.requires)) (omega (arith, c.requires)))
