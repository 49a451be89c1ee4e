-- `plan_sweep::added` meets its contract. The invariant: the routes before j are added.
use mathlib.Core.Path.{◌≡◌}
use Prim.Native.Nat.{ℕ, ◌+◌, ◌-◌, ◌≤◌, ◌<◌}
use Rattle.config.specs.Sizes.{lanes}
use Rattle.model.specs.Counts.{at}
use Rattle.plan_sweep.specs.Sweep.{swept}
use Rattle.plan_sweep.proofs.added.Given as goal

abbrev pub invariant-loop-j : goal.invariant-loop-j
invariant-loop-j v = (v.j ≤ v.count) × ((l : ℕ) → l < lanes → at v.out l ≡ swept v.starts v.steps v.gains v.samples v.first v.frame (v.lane + l) (at v.initial.out l) v.j)

abbrev pub decreases-loop-j : goal.decreases-loop-j
decreases-loop-j v = v.count - v.j
