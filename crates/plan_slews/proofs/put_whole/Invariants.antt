-- `plan_slews::put_whole` meets its contract.
use mathlib.Core.Path.{◌≡◌}
use lib.ListN.{length}
use Prim.Native.Nat.{◌-◌, ◌≤◌}
use Rattle.model.specs.Tick.{fill_from, lanes_from}
use Rattle.plan_slews.proofs.put_whole.Given as goal

abbrev pub invariant-loop-l : goal.invariant-loop-l
invariant-loop-l l = (l.l ≤ l.n) × (length l.values ≡ length l.initial.values) × (l.values ≡ fill_from l.initial.values l.start (lanes_from l.from l.at) l.l)

abbrev pub decreases-loop-l : goal.decreases-loop-l
decreases-loop-l l = l.n - l.l
