-- `audio_rows::each_swept` meets its contract. The invariant: the plans before k are swept.
use mathlib.Core.Path.{◌≡◌}
use Prim.Native.Nat.{ℕ, ◌+◌, ◌-◌, ◌≤◌, ◌<◌}
use lib.ListN.{length, get_or}
use Rattle.state_filled.specs.Filled.{no_plan}
use Rattle.plan_sweep.specs.Leads.{Swept}
use Rattle.audio_rows.proofs.each_swept.Given as goal

abbrev pub invariant-loop-k : goal.invariant-loop-k
invariant-loop-k l = (l.k ≤ l.count) × (length l.plans ≡ 64) × ((i : ℕ) → i < l.k → Swept l.field (get_or l.plans (l.control + i) no_plan) l.steps)

abbrev pub decreases-loop-k : goal.decreases-loop-k
decreases-loop-k l = l.count - l.k
