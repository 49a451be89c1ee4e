-- `block_opening::put_held` meets its contract. The invariant: the first i sources have had their turn.
use mathlib.Core.Path.{◌≡◌}
use Prim.Native.Nat.{◌≤◌, ◌-◌}
use lib.ListN.{length}
use Rattle.block_opening.specs.Marks.{held_if, passes}
use Rattle.block_opening.proofs.put_held.Given as goal

abbrev pub invariant-loop-i : goal.invariant-loop-i
invariant-loop-i l = (l.i ≤ l.sources) × (length l.held ≡ length l.initial.held) × (l.held ≡ held_if l.mark (passes l.note) l.stride l.lane l.x l.i l.initial.held)

abbrev pub decreases-loop-i : goal.decreases-loop-i
decreases-loop-i l = l.sources - l.i
