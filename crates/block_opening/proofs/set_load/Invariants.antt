-- `block_opening::set_load` meets its contract. The invariant: the first i sources have had their turn.
use mathlib.Core.Path.{◌≡◌}
use Prim.Native.Nat.{◌≤◌, ◌-◌}
use lib.ListN.{length}
use Rattle.block_opening.specs.Marks.{load_if}
use Rattle.block_opening.proofs.set_load.Given as goal

abbrev pub invariant-loop-i : goal.invariant-loop-i
invariant-loop-i l = (l.i ≤ l.n) × (length l.globals ≡ length l.initial.globals) × (l.globals ≡ load_if l.mark l.x l.i l.initial.globals)

abbrev pub decreases-loop-i : goal.decreases-loop-i
decreases-loop-i l = l.n - l.i
