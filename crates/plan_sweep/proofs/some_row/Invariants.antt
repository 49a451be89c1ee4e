-- `plan_sweep::some_row` meets its contract. The invariant: the groups before g are put.
use mathlib.Core.Path.{◌≡◌}
use Prim.Native.Nat.{◌+◌, ◌-◌, ◌*◌, ◌≤◌}
use lib.ListN.{length}
use Rattle.config.specs.Sizes.{lanes}
use Rattle.model.specs.Tick.{fill_from}
use Rattle.plan_sweep.proofs.Laws.{some_lane}
use Rattle.plan_sweep.proofs.some_row.Given as goal

abbrev pub invariant-loop-g : goal.invariant-loop-g
invariant-loop-g l = (l.g ≤ l.groups) × (length l.audio ≡ length l.initial.audio) × (l.audio ≡ fill_from l.initial.audio (l.start + l.pass.from) (some_lane l.over l.starts l.steps l.gains l.samples l.pass l.frame l.start l.initial.audio) (l.g * lanes))

abbrev pub decreases-loop-g : goal.decreases-loop-g
decreases-loop-g l = l.groups - l.g
