-- `plan_sweep::put` meets its contract. The invariant: the lanes below l are put.
use mathlib.Core.Path.{◌≡◌}
use Prim.Native.Nat.{◌-◌, ◌≤◌}
use lib.ListN.{length}
use Rattle.model.specs.Counts.{at}
use Rattle.model.specs.Tick.{fill_from}
use Rattle.plan_sweep.proofs.put.Given as goal

abbrev pub invariant-loop-l : goal.invariant-loop-l
invariant-loop-l l = (l.l ≤ 16) × (length l.audio ≡ length l.initial.audio) × (length l.row ≡ 16) × (l.audio ≡ fill_from l.initial.audio l.start (at l.row) l.l)

abbrev pub decreases-loop-l : goal.decreases-loop-l
decreases-loop-l l = 16 - l.l
