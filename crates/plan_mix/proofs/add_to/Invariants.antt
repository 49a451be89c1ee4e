-- `plan_mix::add_to` meets its contract. The invariant: the lanes below l are added to.
use mathlib.Core.Path.{◌≡◌}
use Prim.Native.Nat.{ℕ, ◌+◌, ◌-◌, ◌≤◌}
use lib.ListN.{length}
use Rattle.model.specs.Counts.{at}
use Rattle.number.specs.Number.{plus}
use Rattle.plan_mix.specs.Mixed.{Between}
use Rattle.plan_mix.proofs.add_to.Given as goal

abbrev pub invariant-loop-l : goal.invariant-loop-l
invariant-loop-l l = (l.l ≤ 16) × (length l.row ≡ 16) × Between l.lane l.l (λ (i : ℕ). plus (at l.initial.sums (l.lane + i)) (at l.row i)) l.initial.sums l.sums

abbrev pub decreases-loop-l : goal.decreases-loop-l
decreases-loop-l l = 16 - l.l
