-- `lanes16::cell_lanes` meets its contract. The invariant: the lanes below l are done.
use mathlib.Core.Path.{◌≡◌}
use Prim.Native.Nat.{ℕ, ◌-◌, ◌≤◌, ◌<◌}
use lib.ListN.{length, get_or}
use Rattle.curve_table.specs.Table.{cell_at}
use Rattle.model.specs.Counts.{at}
use Rattle.lanes16.proofs.cell_lanes.Given as goal

abbrev pub invariant-loop-l : goal.invariant-loop-l
invariant-loop-l l = (l.l ≤ 16) × (length l.out ≡ 16) × ((i : ℕ) → i < l.l → get_or l.out i 0 ≡ cell_at (at l.row i))

abbrev pub decreases-loop-l : goal.decreases-loop-l
decreases-loop-l l = 16 - l.l
