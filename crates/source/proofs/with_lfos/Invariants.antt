-- `source::with_lfos` meets its contract. The loop's invariant: LFOs 1 to i are there. Assumes nothing.
use mathlib.Core.Path.{◌≡◌}
use Prim.Native.Nat.{◌-◌, ◌≤◌}
use Rattle.source.specs.Standard.{counted, lfo_pair}
use Rattle.source.proofs.with_lfos.Given as goal

abbrev pub invariant-loop-i : goal.invariant-loop-i
invariant-loop-i l = (l.i ≤ l.count) × (l.next ≡ counted lfo_pair l.i l.initial.next)

abbrev pub decreases-loop-i : goal.decreases-loop-i
decreases-loop-i l = l.count - l.i
