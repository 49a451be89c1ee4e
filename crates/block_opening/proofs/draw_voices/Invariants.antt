-- `block_opening::draw_voices` meets its contract. The invariant: the first v voices have had their turn.
use mathlib.Core.Path.{◌≡◌}
use Prim.Native.Nat.{◌≤◌, ◌-◌}
use lib.ListN.{length}
use Rattle.block_opening.specs.Draws.{drawn_voices}
use Rattle.block_opening.proofs.Draws.{drawn_of}
use Rattle.block_opening.proofs.draw_voices.Given as goal

abbrev pub invariant-loop-v : goal.invariant-loop-v
invariant-loop-v l = (l.v ≤ l.n) × (length l.values ≡ length l.initial.values) × (drawn_of l.last l.values ≡ drawn_voices l.renoted l.at l.v (drawn_of l.draw l.initial.values))

abbrev pub decreases-loop-v : goal.decreases-loop-v
decreases-loop-v l = l.n - l.v
