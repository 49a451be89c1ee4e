-- `plan_mix::put_to` meets its contract. The invariant: the lanes below l are put.
use mathlib.Core.Path.{◌≡◌}
use Prim.Native.Nat.{◌-◌, ◌≤◌}
use lib.ListN.{length}
use Rattle.model.specs.Counts.{at}
use Rattle.plan_mix.specs.Mixed.{Between}
use Rattle.plan_mix.proofs.put_to.Given as goal

abbrev pub invariant-loop-l : goal.invariant-loop-l
invariant-loop-l l = (l.l ≤ 16) × (length l.row ≡ 16) × Between l.start l.l (at l.row) l.initial.new l.new

abbrev pub decreases-loop-l : goal.decreases-loop-l
decreases-loop-l l = 16 - l.l
