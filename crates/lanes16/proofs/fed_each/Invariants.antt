-- `lanes16::fed_each` meets its contract. The invariant: the lanes below l are done.
use mathlib.Core.Path.{◌≡◌}
use Prim.Native.Nat.{ℕ, ◌+◌, ◌-◌, ◌≤◌}
use lib.ListN.{length}
use lib.Ieee.{Float}
use Rattle.plan_sum.proofs.Lanes.{Laned}
use Rattle.model.specs.Env.{Env, Rows}
use Rattle.model.specs.Input.{fed_at}
use Rattle.lane_input.specs.Reads.{IsRows}
use Rattle.lanes16.proofs.fed_each.Given as goal

abbrev pub invariant-loop-l : goal.invariant-loop-l
invariant-loop-l l = (l.l ≤ 16) × (length l.initial.out ≡ 16) × Laned (λ (i : ℕ) (y z : Float). (t : Env) (f : Rows) → t.stride ≡ l.point.stride → IsRows f l.point l.values → z ≡ fed_at t f l.plan l.voice (l.lane + i)) l.l l.initial.out l.out

abbrev pub decreases-loop-l : goal.decreases-loop-l
decreases-loop-l l = 16 - l.l
