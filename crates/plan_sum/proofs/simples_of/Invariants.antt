-- `plan_sum::simples_of` meets its contract. The invariant: the routes before i are told.
use mathlib.Core.Path.{◌≡◌}
use mathlib.Core.Bool.{false}
use Prim.Native.Nat.{ℕ, ◌-◌, ◌≤◌}
use lib.ListN.{length, get_or, replicate}
use Rattle.list.proofs.Filled.{Filled}
use Rattle.state_filled.specs.Filled.{no_route}
use Rattle.plan_sum.proofs.simples_of.Given as goal

abbrev pub invariant-loop-i : goal.invariant-loop-i
invariant-loop-i l = (l.i ≤ 64) × (length l.routes ≡ 64) × Filled (replicate 64 false) (λ (k : ℕ). (get_or l.routes k no_route).simple) l.i l.out

abbrev pub decreases-loop-i : goal.decreases-loop-i
decreases-loop-i l = 64 - l.i
