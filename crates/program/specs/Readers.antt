-- What a program tells of itself (program.rs 240-268; docs/CALLS.md, program). Counts above the arrays' length read as
-- it. Definitions only.
use Rattle.std.specs.Prelude.{Bool, true, false, cond, List, [], ◌∷◌, ℕ, min, eqb, ltb, get_or, take, Option}
use Rattle.std.specs.Prelude.{Some, None}
use Rattle.config.specs.Sizes.{slots}
use Rattle.config.specs.declared.Config.{Config}
use Rattle.state.specs.declared.Plan.{Plan}
use Rattle.state.specs.declared.Route.{Route}
use Rattle.state.specs.declared.Skipped.{Skipped}
use Rattle.state.specs.declared.Rate.{Rate}
use Rattle.state.specs.declared.Rate.TheVariants as R
use Rattle.state.specs.declared.Program.{Program}
use Rattle.state_filled.specs.Filled.{no_plan, no_route, no_skip}

-- program.rs 242
unfoldable pub route_count : Program → ℕ
route_count p = min p.routes slots

unfoldable pub plan_count : Program → ℕ
plan_count p = min p.plans slots

unfoldable pub skip_count : Program → ℕ
skip_count p = min p.skips slots

unfoldable pub plan_at : Program → ℕ → Option Plan
unfolding plan_count
plan_at p i = cond (ltb i (plan_count p)) (Some (get_or p.plan i no_plan)) None

unfoldable pub route_at : Program → ℕ → Option Route
unfolding route_count
route_at p i = cond (ltb i (route_count p)) (Some (get_or p.route i no_route)) None

-- program.rs 248
unfoldable pub skipped_at : Program → ℕ → Option Skipped
unfolding skip_count
skipped_at p i = cond (ltb i (skip_count p)) (Some (get_or p.skipped i no_skip)) None

abbrev pub rate_by : Bool → Option Rate
rate_by true = Some R.Audio
rate_by false = Some R.Control

-- by the plan of d among these
unfoldable pub rate_from : List Plan → ℕ → Option Rate
rate_from [] d = None
rate_from (x ∷ xs) d = cond (eqb x.dest d) (rate_by x.audio) (rate_from xs d)

-- program.rs 255
unfoldable pub rate_of : Program → ℕ → Option Rate
unfolding plan_count rate_from
rate_of p d = rate_from (take (plan_count p) p.plan) d

-- program.rs 266
unfoldable pub config_of : Program → Config
config_of p = p.config
