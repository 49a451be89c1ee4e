-- `plan_turning::lower` meets its contract. The invariant: the lanes below l are copied.
use mathlib.Core.Path.{◌≡◌}
use Prim.Native.Nat.{◌+◌, ◌-◌, ◌≤◌}
use lib.ListN.{length}
use Rattle.model.specs.Tick.{fill_from, lanes_from}
use Rattle.plan_turning.proofs.lower.Given as goal

abbrev pub invariant-loop-l : goal.invariant-loop-l
invariant-loop-l l = (l.l ≤ l.n) × (length l.values ≡ length l.initial.values) × (l.values ≡ fill_from l.initial.values l.from (lanes_from l.initial.values (l.from + l.n)) l.l)

abbrev pub decreases-loop-l : goal.decreases-loop-l
decreases-loop-l l = l.n - l.l
