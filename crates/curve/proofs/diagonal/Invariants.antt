-- `curve::diagonal` meets its contract. The loop's invariant: the points passed are the diagonal's.
use mathlib.Core.Path.{◌≡◌}
use Prim.Native.Nat.{ℕ, ◌-◌, ◌≤◌, ◌<◌}
use lib.ListN.{length, get_or}
use lib.Ieee.{nan}
use Rattle.curve_table.specs.Table.{diagonal_at, points}
use Rattle.curve.proofs.diagonal.Given as goal

abbrev pub invariant-loop-i : goal.invariant-loop-i
invariant-loop-i l =
    (l.i ≤ points) × (length l.points ≡ points) × ((k : ℕ) → k < l.i → get_or l.points k nan ≡ diagonal_at k)

abbrev pub decreases-loop-i : goal.decreases-loop-i
decreases-loop-i l = points - l.i
