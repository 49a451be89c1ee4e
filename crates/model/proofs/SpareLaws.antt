-- THE SPARE NUMBERS STAY: a block leaves the four spare rows of each plan and of each route. Assumes nothing.
use mathlib.Core.Path.{◌≡◌, ap}
use mathlib.Core.Logic.{inl, inr, ⊎_elim}
use mathlib.Core.List.{List}
use Prim.Native.Nat.{ℕ, ◌+◌, ◌*◌, ◌≤◌, ◌<◌}
use native.Mathlib.Nat.{add-mul}
use native.Mathlib.Decide.{ℕ_discrete}
use native.Mathlib.Omega.{arith}
use lib.ListN.{length}
use lib.Ieee.{Float}
use Rattle.config.specs.Sizes.{slots}
use Rattle.list.proofs.Rows.{row_inside, rows_apart}
use Rattle.state.specs.declared.Signals.{Signals}
use Rattle.state.specs.declared.Wiring.{Wiring}
use Rattle.model.specs.Plans.{compiled}
use Rattle.model.specs.Counts.{voice_count, control_total, plan_total, at}
use Rattle.model.specs.Layout.{Sizes, plan_size, route_size, PlanPart, from, to, from_at, to_at, RoutePart, slew, random, of_plan, of_route, ValidOfPlan, ValidOfRoute, row_width, start}
use Rattle.model.specs.World.{World}
use Rattle.model.specs.Process.{process}
use Rattle.model.proofs.LayoutHolds.{narrow, narrow-inside, plan-rows, plan-ends}
use Rattle.model.proofs.ProgramLayout.{stride-least}
use Rattle.model.proofs.ShownRows.{sizes_at}
use Rattle.model.proofs.BlockLeaves.{OffValues}
use Rattle.model.proofs.BlockUntouched.{block-values}

-- where the spare rows of plan i begin, and those of route r
abbrev pub plan_spare : Sizes → ℕ → ℕ
plan_spare z i = i * plan_size z.stride z.chunks + (2 * z.stride + (z.chunks * z.stride + z.chunks * z.stride))

abbrev pub route_spare : Sizes → ℕ → ℕ
route_spare z r = z.plans * plan_size z.stride z.chunks + (r * route_size z.stride + 4 * z.stride)

module _ (z : Sizes) (least : 1 ≤ z.stride) where
  abbrev s : ℕ
  s = z.stride

  abbrev c : ℕ
  c = z.chunks

  -- a plan's rows end before them
  plan-low : (d : ℕ) (q : PlanPart) → ValidOfPlan c q → start z (of_plan d q) + row_width z d ≤ plan_spare z d
  plan-low d from v = omega (arith, narrow z least d)
  plan-low d to v = omega (arith, narrow z least d)
  plan-low d (from_at k) v = omega (arith, narrow-inside (row_width z d) s (narrow z least d) v)
  plan-low d (to_at k) v = omega (arith, add-mul 2 c s, narrow-inside (row_width z d) s (narrow z least d) v)

  plan-high : (d : ℕ) (q : PlanPart) → d * plan_size s c ≤ start z (of_plan d q)
  plan-high d from = omega arith
  plan-high d to = omega arith
  plan-high d (from_at k) = omega arith
  plan-high d (to_at k) = omega arith

  route-low : (r : ℕ) (q : RoutePart) → ValidOfRoute q → start z (of_route r q) + s ≤ route_spare z r
  route-low r (slew p) v = let b : p < 4 = omega arith in omega (arith, row_inside s b)
  route-low r (random p) v = let b : 2 + p < 4 = omega arith in omega (arith, row_inside s b)

  route-high : (r : ℕ) (q : RoutePart) → z.plans * plan_size s c + r * route_size s ≤ start z (of_route r q)
  route-high r (slew p) = omega arith
  route-high r (random p) = omega arith

  -- THE SPARE ROWS ARE IN NO ROW THAT A BLOCK MAY WRITE
  plan-spare : (control i o : ℕ) → i < z.plans → o < 4 * s → OffValues z control (plan_spare z i + o)
  plan-spare control i o h b =
      record {
        plans = λ d q a v. elim (ℕ_discrete d i) [
          | yes e ↦ inr (omega (arith, plan-low d q v, ap (λ (x : ℕ). x * plan_size s c) e))
          | no ne ↦ ⊎_elim
              (λ x. inr (omega (arith, plan-low d q v, plan-rows s c)))
              (λ x. inl (omega (arith, plan-high d q, plan-rows s c)))
              (rows_apart (plan_size s c) ne)
        ];
        routes = λ r q a v. inl (omega (arith, route-high r q, row_inside (plan_size s c) h, plan-rows s c));
      }

  route-spare : (control r o : ℕ) → control ≤ z.plans → o < 4 * s → OffValues z control (route_spare z r + o)
  route-spare control r o h b =
      record {
        plans = λ d q a v.
            let i : d < z.plans = omega arith in
            inr (omega (arith, plan-ends z least d q (i, v)));
        routes = λ t q a v. elim (ℕ_discrete t r) [
          | yes e ↦ inr (omega (arith, route-low t q v, ap (λ (x : ℕ). x * route_size s) e))
          | no ne ↦ ⊎_elim
              (λ x. inr (omega (arith, route-low t q v)))
              (λ x. inl (omega (arith, route-high t q)))
              (rows_apart (route_size s) ne)
        ];
      }

module _ (w : Wiring) (slotted : length w.matrix.slot ≡ slots) (samples : List Float) (signals : Signals) (first end : ℕ) (u : World) (is : u.state.program ≡ compiled w) where
  abbrev y : Sizes
  y = sizes_at u.state

  -- OF EACH PLAN
  pub plan-spares : (i o : ℕ) → i < plan_total u.state.program → o < 4 * y.stride
      → at (process u samples signals first end).world.values (plan_spare y i + o) ≡ at u.values (plan_spare y i + o)
  plan-spares i o h b =
      let least = stride-least (voice_count u.state) in
      block-values w slotted samples signals first end u is (plan_spare y i + o) (plan-spare y least (control_total u.state.program) i o h b)

  -- AND OF EACH ROUTE
  pub route-spares : (r o : ℕ) → o < 4 * y.stride
      → at (process u samples signals first end).world.values (route_spare y r + o) ≡ at u.values (route_spare y r + o)
  route-spares r o b =
      let least = stride-least (voice_count u.state) in
      block-values w slotted samples signals first end u is (route_spare y r + o) (route-spare y least (control_total u.state.program) r o (omega arith) b)
