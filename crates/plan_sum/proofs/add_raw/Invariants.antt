-- `plan_sum::add_raw` meets its contract. The invariant: the lanes of the span below l are added to.
use mathlib.Core.Path.{◌≡◌}
use Prim.Native.Nat.{ℕ, ◌-◌, ◌≤◌}
use mathlib.Core.List.{List}
use lib.Ieee.{Float}
use Rattle.number.specs.Number.{plus, times}
use Rattle.state.specs.declared.Route.{Route}
use Rattle.model.specs.Env.{Env, Rows, Own}
use Rattle.model.specs.RouteValue.{raw_in}
use Rattle.lane.specs.declared.View.{View}
use Rattle.plan_sum.specs.Job.{Shown}
use Rattle.plan_sum.proofs.Lanes.{Ranged}
use Rattle.plan_sum.proofs.add_raw.Given as goal

-- what is stored in a lane, of what stood there
abbrev pub Each : Route → View → Float → List Float → List Float → List Float → List Float → ℕ → Float → Float → Type 0
Each route view gain held globals samples values i y z = (t : Env) (f : Rows) (s : Own) (j : ℕ) → Shown t f s j view route held globals samples values → z ≡ plus y (times (raw_in t f s j i route) gain)

abbrev pub invariant-loop-l : goal.invariant-loop-l
invariant-loop-l l = (l.initial.l ≤ l.l) × (l.l ≤ l.end) × Ranged (Each l.route l.view l.gain l.held l.globals l.samples l.values) l.initial.l l.l l.initial.out l.out

abbrev pub decreases-loop-l : goal.decreases-loop-l
decreases-loop-l l = l.end - l.l
