-- `audio_rows::old_row` meets its contract. The invariant: the lanes before l are read.
use mathlib.Core.Path.{◌≡◌}
use Prim.Native.Nat.{◌-◌, ◌≤◌}
use lib.ListN.{length}
use Rattle.model.specs.Tick.{lanes_from}
use Rattle.plan_slews.specs.Rows.{IsRow}
use Rattle.audio_rows.proofs.old_row.Given as goal

abbrev pub invariant-loop-l : goal.invariant-loop-l
invariant-loop-l l = (l.l ≤ l.n) × (l.n ≤ 64) × (length l.out ≡ 64) × IsRow l.l (lanes_from l.audio l.start) l.out

abbrev pub decreases-loop-l : goal.decreases-loop-l
decreases-loop-l l = l.n - l.l
