-- `compile_order::marks` meets its contract. The loop's invariant: the marks of the pairs below p stand.
use mathlib.Core.Bool.{false}
use Prim.Native.Nat.{◌≤◌, ◌-◌}
use lib.ListN.{replicate}
use Rattle.list.proofs.Filled.{Filled}
use Rattle.feed.specs.Marks.{pairs}
use Rattle.compile_order.specs.Marks.{mark_at}
use Rattle.compile_order.proofs.marks.Given as goal

abbrev pub invariant-loop-p : goal.invariant-loop-p
invariant-loop-p l = (l.p ≤ pairs) × Filled (replicate pairs false) (mark_at l.readers l.control) l.p l.out

abbrev pub decreases-loop-p : goal.decreases-loop-p
decreases-loop-p l = pairs - l.p
