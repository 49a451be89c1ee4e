-- `block_opening::moved_held` meets its contract. The invariant: the first v voices have had their turn.
use mathlib.Core.Path.{◌≡◌}
use Prim.Native.Nat.{◌≤◌, ◌-◌}
use lib.ListN.{length}
use Rattle.block_opening.specs.Marks.{moved_if, passes}
use Rattle.block_opening.proofs.moved_held.Given as goal

abbrev pub invariant-loop-v : goal.invariant-loop-v
invariant-loop-v l = (l.v ≤ l.n) × (length l.held ≡ length l.initial.held) × (length l.glide ≡ 64) × (length l.value ≡ 64) × (l.held ≡ moved_if l.mark (passes l.note) l.stride l.sources l.glide l.value l.v l.initial.held)

abbrev pub decreases-loop-v : goal.decreases-loop-v
decreases-loop-v l = l.n - l.v
