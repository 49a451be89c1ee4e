-- `plan_sum::same_lanes` meets its contract. The invariant: the lanes below l are added to.
use mathlib.Core.Path.{◌≡◌}
use Prim.Native.Nat.{ℕ, ◌-◌, ◌/◌, ◌≤◌}
use lib.Ieee.{Float}
use Rattle.number.specs.Number.{plus}
use mathlib.Core.Bool.{false, cond}
use lib.ListN.{length, get_or}
use Rattle.config.specs.Sizes.{lanes}
use Rattle.plan_sum.proofs.Lanes.{Laned}
use Rattle.plan_sum.proofs.same_lanes.Given as goal

abbrev pub invariant-loop-l : goal.invariant-loop-l
invariant-loop-l l = (l.l ≤ l.n) × (length l.groups ≡ 4) × Laned (λ (i : ℕ) (y z : Float). z ≡ cond (get_or l.groups (i / lanes) false) (plus y l.x) y) l.l l.initial.out l.out

abbrev pub decreases-loop-l : goal.decreases-loop-l
decreases-loop-l l = l.n - l.l
