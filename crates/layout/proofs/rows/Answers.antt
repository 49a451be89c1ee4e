-- `layout::rows` meets its contract.
use mathlib.Core.Path.{refl}
use Prim.Native.Nat.{ℕ, ◌+◌, ◌*◌, ◌≤◌}
use native.Mathlib.Omega.{arith}
use Rattle.config.specs.Sizes.{slots, most_frames, most_chunks}
use Rattle.layout.proofs.Bounds.{product-bound}
use Rattle.layout.proofs.rows.Goals as goal

-- the most plans, of the most rows
plan-rows : (plans chunks : ℕ) → plans ≤ slots → chunks ≤ most_chunks most_frames → plans * (2 * chunks + 6) ≤ slots * (2 * most_chunks most_frames + 6)
plan-rows plans chunks few short = product-bound plans (2 * chunks + 6) slots (2 * most_chunks most_frames + 6) few (omega arith)

pub overflow_mul-result-2 : goal.overflow_mul-result-2
overflow_mul-result-2 c = omega (arith, plan-rows c.args.plans c.args.chunks c.requires.1 c.requires.0)

pub overflow_add-result-2 : goal.overflow_add-result-2
overflow_add-result-2 c = omega (arith, plan-rows c.args.plans c.args.chunks c.requires.1 c.requires.0)

pub returns : goal.returns
returns c = (refl, omega (arith, plan-rows c.args.plans c.args.chunks c.requires.1 c.requires.0))
