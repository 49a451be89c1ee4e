-- `plan_sweep::four_row` meets its contract. The invariant: the groups before k are put.
use mathlib.Core.Path.{◌≡◌}
use Prim.Native.Nat.{◌-◌, ◌*◌, ◌≤◌}
use lib.ListN.{length}
use Rattle.config.specs.Sizes.{lanes}
use Rattle.model.specs.Tick.{fill_from}
use Rattle.plan_sweep.proofs.Fours.{four_lane}
use Rattle.plan_sweep.proofs.four_row.Given as goal

abbrev pub invariant-loop-k : goal.invariant-loop-k
invariant-loop-k l = (l.k ≤ l.groups) × (length l.audio ≡ length l.initial.audio) × (l.audio ≡ fill_from l.initial.audio l.start (four_lane l.over l.x l.xs l.p l.g l.start l.initial.audio) (l.k * lanes))

abbrev pub decreases-loop-k : goal.decreases-loop-k
decreases-loop-k l = l.groups - l.k
