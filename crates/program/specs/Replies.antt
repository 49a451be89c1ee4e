-- What the readers of a program say: number and values of each case (document 01, The form to use in each place).
-- Definitions only.
use Rattle.std.specs.Prelude.{cond, List, [], ◌∷◌, map, ℕ, eqb, ltb, get_or, take, Option, Some, None}
use Rattle.reply.specs.Reply.{Reply, accepts, only, by_rows}
use Rattle.state.specs.declared.Plan.{Plan}
use Rattle.state.specs.declared.Route.{Route}
use Rattle.state.specs.declared.Skipped.{Skipped}
use Rattle.state.specs.declared.Rate.{Rate}
use Rattle.state.specs.declared.Rate.TheVariants as R
use Rattle.state.specs.declared.Program.{Program}
use Rattle.state_filled.specs.Filled.{no_plan, no_route, no_skip}
use Rattle.program.specs.Readers.{plan_count, route_count, skip_count}

-- ---- each case: what stands there, or nothing

abbrev pub read_reply : {A : Type 0} → Option A → Reply A
read_reply None = accepts []
read_reply (Some x) = accepts (x ∷ [])

-- ---- what each call says, with no row: what stands at i, if there is such a one

unfoldable pub plan_says : Program → ℕ → Reply Plan
unfolding by_rows plan_count
plan_says p i = by_rows [] (only (ltb i (plan_count p)) (get_or p.plan i no_plan))

unfoldable pub route_says : Program → ℕ → Reply Route
unfolding by_rows route_count
route_says p i = by_rows [] (only (ltb i (route_count p)) (get_or p.route i no_route))

unfoldable pub skipped_says : Program → ℕ → Reply Skipped
unfolding by_rows skip_count
skipped_says p i = by_rows [] (only (ltb i (skip_count p)) (get_or p.skipped i no_skip))

-- the plans of d among these
abbrev pub plans_of : ℕ → List Plan → List Plan
plans_of d [] = []
plans_of d (x ∷ xs) = cond (eqb x.dest d) (x ∷ plans_of d xs) (plans_of d xs)

-- program.rs 255-263
abbrev pub plan_rate : Plan → Rate
plan_rate x = cond x.audio R.Audio R.Control

-- the rate of the first plan of d, if it has one
unfoldable pub rate_says : Program → ℕ → Reply Rate
unfolding by_rows plan_count
rate_says p d = by_rows [] (map plan_rate (take 1 (plans_of d (take (plan_count p) p.plan))))
