-- The counts of a state, held to their limits (docs/CALLS.md, Counts of a state), and what stands under a number.
-- Definitions only.
use Rattle.std.specs.Prelude.{List, ℕ, ◌%◌, min, get_or, Float}
use Rattle.std.specs.Float.{nan}
use Rattle.config.specs.Sizes.{slots, most_sources, most_destinations, most_voices, most_frames, period, lane_stride}
use Rattle.config.specs.Sizes.{most_chunks}
use Rattle.state.specs.declared.Plan.{Plan}
use Rattle.state.specs.declared.Route.{Route}
use Rattle.state.specs.declared.Program.{Program}
use Rattle.state.specs.declared.State.{State}
use Rattle.state_filled.specs.Filled.{no_plan, no_route}

abbrev pub voice_count : State → ℕ
voice_count st = min st.config.voices most_voices

abbrev pub frame_count : State → ℕ
frame_count st = min st.config.max_frames most_frames

-- the lane stride
abbrev pub stride_of : State → ℕ
stride_of st = lane_stride (voice_count st)

abbrev pub chunks_most : State → ℕ
chunks_most st = most_chunks (frame_count st)

abbrev pub engine_sources : State → ℕ
engine_sources st = min st.sources most_sources

abbrev pub engine_dests : State → ℕ
engine_dests st = min st.dests most_destinations

abbrev pub plan_total : Program → ℕ
plan_total p = min p.plans slots

abbrev pub control_total : Program → ℕ
control_total p = min p.control (plan_total p)

abbrev pub route_total : Program → ℕ
route_total p = min p.routes slots

abbrev pub phase_of : State → ℕ
phase_of st = st.phase % period

-- plan i and route r of the installed program
unfoldable pub plan_at : State → ℕ → Plan
plan_at st i = get_or st.program.plan i no_plan

unfoldable pub route_at : State → ℕ → Route
route_at st r = get_or st.program.route r no_route

-- the number at k
abbrev pub at : List Float → ℕ → Float
at l k = get_or l k nan
