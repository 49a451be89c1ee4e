-- `lanes16::points_at` meets its contract. The invariant: the lanes below l are done.
use mathlib.Core.Path.{◌≡◌}
use Prim.Native.Nat.{ℕ, ◌+◌, ◌-◌, ◌≤◌}
use lib.ListN.{length, get_or}
use lib.Ieee.{Float}
use Rattle.plan_sum.proofs.Lanes.{Laned}
use Rattle.model.specs.Counts.{at}
use Rattle.lanes16.proofs.points_at.Given as goal

abbrev pub invariant-loop-l : goal.invariant-loop-l
invariant-loop-l l = (l.l ≤ 16) × (length l.initial.out ≡ 16) × Laned (λ (i : ℕ) (y z : Float). z ≡ at l.tables (l.start + get_or l.cells i 0)) l.l l.initial.out l.out

abbrev pub decreases-loop-l : goal.decreases-loop-l
decreases-loop-l l = 16 - l.l
