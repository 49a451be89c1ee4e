-- `plan_sweep::hold_lanes` meets its contract. The invariant: the lanes below l are held.
use mathlib.Core.Path.{◌≡◌}
use Prim.Native.Nat.{ℕ, ◌-◌, ◌≤◌}
use lib.ListN.{length}
use lib.Ieee.{Float}
use Rattle.number.specs.Number.{hold}
use Rattle.plan_sum.proofs.Lanes.{Laned}
use Rattle.plan_sweep.proofs.hold_lanes.Given as goal

abbrev pub invariant-loop-l : goal.invariant-loop-l
invariant-loop-l l = (l.l ≤ 16) × (length l.initial.out ≡ 16) × Laned (λ (i : ℕ) (y z : Float). z ≡ hold l.lo l.hi y) l.l l.initial.out l.out

abbrev pub decreases-loop-l : goal.decreases-loop-l
decreases-loop-l l = 16 - l.l
