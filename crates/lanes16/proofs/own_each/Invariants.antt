-- `lanes16::own_each` meets its contract. The invariant: the lanes below l are done.
use mathlib.Core.Path.{◌≡◌}
use Prim.Native.Nat.{ℕ, ◌+◌, ◌-◌, ◌≤◌}
use lib.ListN.{length}
use lib.Ieee.{Float}
use Rattle.plan_sum.proofs.Lanes.{Laned}
use Rattle.model.specs.Env.{Own}
use Rattle.lane.specs.View.{IsOwn}
use Rattle.lanes16.proofs.own_each.Given as goal

abbrev pub invariant-loop-l : goal.invariant-loop-l
invariant-loop-l l = (l.l ≤ 16) × (length l.initial.out ≡ 16) × Laned (λ (i : ℕ) (y z : Float). (s : Own) (j : ℕ) → IsOwn s j l.own l.stride l.values → z ≡ s j l.q (l.lane + i)) l.l l.initial.out l.out

abbrev pub decreases-loop-l : goal.decreases-loop-l
decreases-loop-l l = 16 - l.l
