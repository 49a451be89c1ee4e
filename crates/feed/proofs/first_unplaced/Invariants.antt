-- `feed::first_unplaced` meets its contract. The invariant: the first unplaced from i on is the first of all. Assumes nothing.
use mathlib.Core.Path.{◌≡◌}
use Prim.Native.Nat.{◌≤◌, ◌-◌}
use Rattle.feed.specs.Numbers.{first_or}
use Rattle.feed.specs.Marks.{unplaced}
use Rattle.feed.proofs.first_unplaced.Given as goal

abbrev pub invariant-loop-i : goal.invariant-loop-i
invariant-loop-i l = (l.i ≤ l.n) × (first_or 0 (unplaced l.placed 0 l.n) ≡ first_or 0 (unplaced l.placed l.i (l.n - l.i)))

abbrev pub decreases-loop-i : goal.decreases-loop-i
decreases-loop-i l = l.n - l.i
