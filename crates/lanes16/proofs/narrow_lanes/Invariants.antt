-- `lanes16::narrow_lanes` meets its contract. The invariant: the lanes below l are done.
use mathlib.Core.Path.{◌≡◌}
use mathlib.Core.Bool.{cond}
use Prim.Native.Nat.{ℕ, ◌+◌, ◌-◌, ◌≤◌}
use lib.Dec.{ltb}
use lib.ListN.{length}
use lib.Ieee.{Float}
use Rattle.number.specs.Number.{zero32}
use Rattle.plan_sum.proofs.Lanes.{Laned}
use Rattle.model.specs.Counts.{at}
use Rattle.lanes16.proofs.narrow_lanes.Given as goal

abbrev pub invariant-loop-l : goal.invariant-loop-l
invariant-loop-l l = (l.l ≤ 16) × (length l.initial.out ≡ 16) × Laned (λ (i : ℕ) (y z : Float). z ≡ cond (ltb (l.lane + i) l.wide) (at l.samples (l.start + (l.lane + i))) zero32) l.l l.initial.out l.out

abbrev pub decreases-loop-l : goal.decreases-loop-l
decreases-loop-l l = 16 - l.l
