-- `block_opening::plan_size` meets its contract.
use mathlib.Core.Path.{refl}
use Prim.Native.Nat.{◌+◌, ◌*◌}
use native.Mathlib.Omega.{arith}
use Rattle.layout.proofs.Bounds.{product-bound}
use Rattle.block_opening.proofs.plan_size.Goals as goal

pub overflow_mul-result-2 : goal.overflow_mul-result-2
overflow_mul-result-2 c = omega (arith, product-bound c.args.stride (2 * c.args.chunks + 6) 64 266 (omega (arith, c.requires)) (omega (arith, c.requires)))

pub returns : goal.returns
returns c = (refl, product-bound c.args.stride (2 * c.args.chunks + 6) 64 266 (omega (arith, c.requires)) (omega (arith, c.requires)))
