-- `plan_turning::bases_of` meets its contract. The invariant: the bases of the plans before d are found.
use mathlib.Core.Path.{◌≡◌}
use Prim.Native.Nat.{ℕ, ◌-◌, ◌≤◌}
use lib.ListN.{length, get_or}
use Rattle.state_filled.specs.Filled.{no_plan}
use Rattle.plan_sum.specs.Job.{base_by}
use Rattle.plan_slews.specs.Rows.{IsRow}
use Rattle.plan_turning.proofs.bases_of.Given as goal

abbrev pub invariant-loop-d : goal.invariant-loop-d
invariant-loop-d l = (l.d ≤ l.n) × (length l.out ≡ 64) × (length l.plans ≡ 64) × IsRow l.d (λ (i : ℕ). base_by l.levels l.globals l.bases (get_or l.plans i no_plan).dest (get_or l.plans i no_plan).base) l.out

abbrev pub decreases-loop-d : goal.decreases-loop-d
decreases-loop-d l = l.n - l.d
