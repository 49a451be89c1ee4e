-- `audio_rows::hold_lanes` meets its contract. The invariant: the lanes below l are held.
use mathlib.Core.Path.{◌≡◌}
use mathlib.Core.Bool.{Bool, cond, not, ◌||◌}
use Prim.Native.Nat.{ℕ, ◌-◌, ◌≤◌}
use lib.Ieee.{Float}
use Rattle.number.specs.Number.{hold}
use Rattle.model.specs.Env.{Env}
use Rattle.model.specs.Lanes.{in_span}
use Rattle.plan_sum.specs.declared.Job.{Job}
use Rattle.plan_sum.specs.Job.{IsScene}
use Rattle.plan_sum.proofs.Lanes.{Laned}
use Rattle.audio_rows.proofs.hold_lanes.Given as goal

-- what is stored in a lane, of what stood there
abbrev pub Each : Job → Bool → ℕ → Float → Float → Type 0
Each job whole l a z = (t : Env) → IsScene t job.scene job.signals → z ≡ cond (not whole || in_span t l) (hold job.plan.min job.plan.max a) a

abbrev pub invariant-loop-l : goal.invariant-loop-l
invariant-loop-l l = (l.l ≤ l.n) × Laned (Each l.job l.whole) l.l l.initial.out l.out

abbrev pub decreases-loop-l : goal.decreases-loop-l
decreases-loop-l l = l.n - l.l
