-- `plan_sum::own_lanes` meets its contract. The invariant: the lanes below l are added to.
use mathlib.Core.Path.{◌≡◌}
use Prim.Native.Nat.{ℕ, ◌-◌, ◌/◌, ◌≤◌}
use mathlib.Core.List.{List}
use lib.Ieee.{Float}
use Rattle.number.specs.Number.{plus}
use mathlib.Core.Bool.{Bool, false, cond}
use lib.ListN.{length, get_or}
use Rattle.config.specs.Sizes.{lanes}
use Rattle.state.specs.declared.Route.{Route}
use Rattle.model.specs.Env.{Env, Rows, Own}
use Rattle.model.specs.RouteValue.{route_value}
use Rattle.lane.specs.declared.View.{View}
use Rattle.lane.specs.View.{Viewed}
use Rattle.plan_sum.proofs.Lanes.{Laned}
use Rattle.plan_sum.proofs.own_lanes.Given as goal

-- what is stored in a lane, of what stood there
abbrev pub Each : Route → View → List Float → List Float → List Float → List Float → List Float → List Bool → Bool → List Bool → ℕ → Float → Float → Type 0
Each route view held globals tables samples values groups snap fresh i y z = (t : Env) (f : Rows) (s : Own) (j : ℕ) → t.snap ≡ snap → t.fresh ≡ fresh → Viewed t f s j view route held globals tables samples values → z ≡ cond (get_or groups (i / lanes) false) (plus y (route_value t f s j i route)) y

abbrev pub invariant-loop-l : goal.invariant-loop-l
invariant-loop-l l = (l.l ≤ l.n) × (length l.groups ≡ 4) × Laned (Each l.route l.view l.held l.globals l.tables l.samples l.values l.groups l.snap l.fresh) l.l l.initial.out l.out

abbrev pub decreases-loop-l : goal.decreases-loop-l
decreases-loop-l l = l.n - l.l
