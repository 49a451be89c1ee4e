-- `list::copy_within` meets its contract. The loop's invariant: the first i numbers at `to` are those that stood at `from`. Assumes nothing.
use Prim.Native.Nat.{◌+◌, ◌≤◌, ◌-◌}
use lib.ListN.{get_or}
use lib.Ieee.{nan}
use Rattle.list.proofs.FilledPart.{FilledPart}
use Rattle.list.proofs.copy_within.Given as goal

abbrev pub invariant-loop-i : goal.invariant-loop-i
invariant-loop-i l = (l.i ≤ l.n) × FilledPart l.initial.mem l.to (l.to + l.n) (λ k. get_or l.initial.mem (l.from + k) nan) l.i l.mem

abbrev pub decreases-loop-i : goal.decreases-loop-i
decreases-loop-i l = l.n - l.i
