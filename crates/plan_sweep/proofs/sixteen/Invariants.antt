-- `plan_sweep::sixteen` meets its contract. The invariant: the lanes below l are read.
use mathlib.Core.Path.{◌≡◌}
use Prim.Native.Nat.{ℕ, ◌+◌, ◌-◌, ◌≤◌}
use lib.ListN.{length}
use Rattle.model.specs.Counts.{at}
use Rattle.plan_slews.specs.Rows.{IsRow}
use Rattle.plan_sweep.proofs.sixteen.Given as goal

abbrev pub invariant-loop-l : goal.invariant-loop-l
invariant-loop-l l = (l.l ≤ 16) × (length l.out ≡ 16) × IsRow l.l (λ (i : ℕ). at l.xs (l.p + i)) l.out

abbrev pub decreases-loop-l : goal.decreases-loop-l
decreases-loop-l l = 16 - l.l
