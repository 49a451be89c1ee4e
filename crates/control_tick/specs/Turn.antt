-- What a plan's turn and a tick are handed, and that it is the state's and the environment's. Definitions only.
use Rattle.std.specs.Prelude.{◌≡◌, Bool, List, ℕ, get_or, Float}
use Rattle.state.specs.declared.Plan.{Plan}
use Rattle.state.specs.declared.Route.{Route}
use Rattle.state.specs.declared.Signals.{Signals}
use Rattle.state.specs.declared.State.{State}
use Rattle.state_filled.specs.Filled.{no_plan}
use Rattle.model.specs.Counts.{stride_of, chunks_most, plan_total, control_total, plan_at}
use Rattle.model.specs.Env.{Env}
use Rattle.lane_input.specs.declared.Scene.{Scene}
use Rattle.plan_sum.specs.declared.Job.{Job}
use Rattle.plan_sum.specs.Job.{IsScene}

-- what t has is the scene's and the lent: signals z, held numbers h, globals g, bases a, tables b, samples i
pub record Given (t : Env) (s : Scene) (z : Signals) (h g a b i : List Float) : Type 0 where
  pub scene : IsScene t s z
  pub held : t.held ≡ h
  pub globals : t.globals ≡ g
  pub bases : t.bases ≡ a
  pub tables : t.tables ≡ b
  pub samples : t.samples ≡ i

-- the job is that of plan d of st
pub record IsTurn (st : State) (d : ℕ) (w : Job) : Type 0 where
  pub stride : stride_of st ≡ w.scene.stride
  pub chunks : chunks_most st ≡ w.chunks
  pub plans : plan_total st.program ≡ w.plans
  pub plan : plan_at st d ≡ w.plan
  pub routes : st.program.route ≡ w.routes

-- the job of plan d, of plans p and routes r
abbrev pub job_of : List Plan → ℕ → List Route → Scene → Signals → ℕ → ℕ → Bool → Job
job_of p d r s z c n b = record { plan = get_or p d no_plan; routes = r; scene = s; signals = z; chunks = c; plans = n; simple = b }

-- the program of st has plans p, of which k are control plans, and routes r; its sizes are these
pub record IsTick (st : State) (p : List Plan) (k : ℕ) (r : List Route) (s c n : ℕ) : Type 0 where
  pub plan : st.program.plan ≡ p
  pub control : control_total st.program ≡ k
  pub routes : st.program.route ≡ r
  pub stride : stride_of st ≡ s
  pub chunks : chunks_most st ≡ c
  pub plans : plan_total st.program ≡ n
