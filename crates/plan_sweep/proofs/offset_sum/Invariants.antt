-- `plan_sweep::offset_sum` meets its contract. The invariant: the offsets before j are added.
use mathlib.Core.Path.{◌≡◌}
use Prim.Native.Nat.{◌-◌, ◌≤◌}
use Rattle.plan_sweep.specs.Leads.{offset_sum}
use Rattle.plan_sweep.proofs.offset_sum.Given as goal

abbrev pub invariant-loop-j : goal.invariant-loop-j
invariant-loop-j l = (l.j ≤ l.count) × (l.out ≡ offset_sum l.offsets l.first l.j)

abbrev pub decreases-loop-j : goal.decreases-loop-j
decreases-loop-j l = l.count - l.j
