-- `feed::is_fed` meets its contract. The invariant: the unplaced from a on give the same answer as all of them. Assumes nothing.
use mathlib.Core.Path.{◌≡◌}
use Prim.Native.Nat.{◌≤◌, ◌-◌}
use Rattle.feed.specs.Order.{fed_by}
use Rattle.feed.specs.Marks.{marked, unplaced}
use Rattle.feed.proofs.is_fed.Given as goal

abbrev pub invariant-loop-a : goal.invariant-loop-a
invariant-loop-a l = (l.a ≤ l.n) × (fed_by (marked l.feeds) (unplaced l.placed 0 l.n) l.b ≡ fed_by (marked l.feeds) (unplaced l.placed l.a (l.n - l.a)) l.b)

abbrev pub decreases-loop-a : goal.decreases-loop-a
decreases-loop-a l = l.n - l.a
