-- What the audio of a chunk is worked out from, and that it is a state's. Definitions only.
use Rattle.std.specs.Prelude.{◌≡◌, Bool, List, ℕ, ◌+◌, ◌*◌, ◌≤◌, Float}
use Rattle.config.specs.Sizes.{slots, most_frames}
use Rattle.state.specs.declared.Chunk.{Chunk}
use Rattle.state.specs.declared.Plan.{Plan}
use Rattle.state.specs.declared.State.{State}
use Rattle.model.specs.Counts.{stride_of, chunks_most, frame_count, plan_total, control_total}
use Rattle.model.specs.Env.{Env}
use Rattle.lane_input.specs.Scene.{env_of}
use Rattle.plan_sum.specs.declared.Job.{Job}
use Rattle.audio_rows.specs.declared.Work.{Work}

-- sizes below their limits, and the chunk within the frames
pub record Sized (w : Work) (c : Chunk) : Type 0 where
  pub lanes : 1 ≤ w.scene.stride
  pub stride : w.scene.stride ≤ 64
  pub chunks : w.chunks ≤ 130
  pub frames : w.frames ≤ most_frames
  pub plans : w.plans ≤ slots
  pub control : w.control ≤ w.plans
  pub end : c.start + c.len ≤ w.frames

-- the numbers that the rows of all plans take
abbrev pub audio_room : Work → ℕ
audio_room w = w.scene.stride * (w.plans * w.frames)

-- the work is of the program that is installed in st
pub record Installed (st : State) (w : Work) : Type 0 where
  pub stride : stride_of st ≡ w.scene.stride
  pub chunks : chunks_most st ≡ w.chunks
  pub frames : frame_count st ≡ w.frames
  pub plans : plan_total st.program ≡ w.plans
  pub control : control_total st.program ≡ w.control
  pub plan : st.program.plan ≡ w.plan
  pub routes : st.program.route ≡ w.routes

-- the job of a plan; b: whether a route of it is simple
abbrev pub job_of : Work → Plan → Bool → Job
job_of w p b = record { plan = p; routes = w.routes; scene = w.scene; signals = w.signals; chunks = w.chunks; plans = w.plans; simple = b }

-- what the numbers are worked out from, with held numbers h, globals g, bases a, tables b and samples i
abbrev pub work_env : Work → List Float → List Float → List Float → List Float → List Float → Env
work_env w h g a b i = env_of w.scene h g a b i w.signals
