-- `plan_sum::add_from` meets its contract. The invariant: the lanes of the span below l are added to.
use mathlib.Core.Path.{◌≡◌}
use Prim.Native.Nat.{ℕ, ◌+◌, ◌-◌, ◌≤◌}
use mathlib.Core.List.{List}
use lib.Ieee.{Float}
use Rattle.number.specs.Number.{plus, times}
use Rattle.model.specs.Counts.{at}
use Rattle.plan_sum.proofs.Lanes.{Ranged}
use Rattle.plan_sum.proofs.add_from.Given as goal

-- what is stored in a lane, of what stood there
abbrev pub Each : ℕ → Float → List Float → ℕ → Float → Float
Each start gain xs i y = plus y (times (at xs (start + i)) gain)

abbrev pub invariant-loop-l : goal.invariant-loop-l
invariant-loop-l l = (l.initial.l ≤ l.l) × (l.l ≤ l.end) × Ranged (λ (i : ℕ) (y z : Float). z ≡ Each l.start l.gain l.xs i y) l.initial.l l.l l.initial.out l.out

abbrev pub decreases-loop-l : goal.decreases-loop-l
decreases-loop-l l = l.end - l.l
