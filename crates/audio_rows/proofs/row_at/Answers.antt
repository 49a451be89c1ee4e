-- `audio_rows::row_at` meets its contract.
use mathlib.Core.Path.{refl}
use native.Mathlib.Omega.{arith}
use Rattle.lane_input.proofs.Numbers.{product-bound}
use Rattle.audio_rows.proofs.row_at.Goals as goal

pub overflow_mul-result : goal.overflow_mul-result
overflow_mul-result c = let p = c.requires in
    omega (arith, product-bound c.args.n c.args.width 4096 64 p.1 p.0)

pub returns : goal.returns
returns c = let p = c.requires in
    (refl, omega (arith, product-bound c.args.n c.args.width 4096 64 p.1 p.0))
