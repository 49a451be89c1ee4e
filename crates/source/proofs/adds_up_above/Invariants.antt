-- `source::adds_up_above` meets its contract. The loop's invariant: what is left is short if the lengths from i on add up to more. Assumes nothing.
use mathlib.Core.Path.{◌≡◌}
use Prim.Native.Nat.{◌-◌, ◌≤◌}
use lib.Dec.{ltb}
use lib.ListN.{length, drop}
use Rattle.source.specs.Standard.{total}
use Rattle.source.proofs.adds_up_above.Given as goal

abbrev pub invariant-loop-i : goal.invariant-loop-i
invariant-loop-i l = (l.i ≤ length l.lengths) × (ltb l.have (total l.lengths) ≡ ltb l.left (total (drop l.i l.lengths)))

abbrev pub decreases-loop-i : goal.decreases-loop-i
decreases-loop-i l = length l.lengths - l.i
