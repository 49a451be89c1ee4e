-- `plan_slews::hold_row` meets its contract. The invariant: the lanes before l are held.
use mathlib.Core.Path.{◌≡◌}
use Prim.Native.Nat.{ℕ, ◌-◌, ◌≤◌}
use lib.ListN.{length, get_or}
use lib.Ieee.{nan}
use Rattle.number.specs.Number.{hold}
use Rattle.plan_slews.specs.Rows.{IsRow}
use Rattle.plan_slews.proofs.hold_row.Given as goal

abbrev pub invariant-loop-l : goal.invariant-loop-l
invariant-loop-l l = (l.l ≤ l.n) × (l.n ≤ 64) × (length l.out ≡ 64) × IsRow l.l (λ (k : ℕ). hold l.min l.max (get_or l.row k nan)) l.out

abbrev pub decreases-loop-l : goal.decreases-loop-l
decreases-loop-l l = l.n - l.l
