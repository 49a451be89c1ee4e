-- `plan_sum::span_row` meets its contract. The invariant: the lanes of the span below l are set.
use mathlib.Core.Path.{◌≡◌}
use Prim.Native.Nat.{ℕ, ◌-◌, ◌≤◌}
use lib.Ieee.{Float}
use Rattle.plan_sum.proofs.Lanes.{Ranged}
use Rattle.plan_sum.proofs.span_row.Given as goal

abbrev pub invariant-loop-l : goal.invariant-loop-l
invariant-loop-l l = (l.initial.l ≤ l.l) × (l.l ≤ l.end) × Ranged (λ (i : ℕ) (y z : Float). z ≡ l.x) l.initial.l l.l l.initial.out l.out

abbrev pub decreases-loop-l : goal.decreases-loop-l
decreases-loop-l l = l.end - l.l
