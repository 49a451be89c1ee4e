-- What a chunk's numbers are worked out from, of a state. Definitions only.
use Rattle.std.specs.Prelude.{Bool, cond, ℕ, ◌+◌, Float, List}
use Rattle.config.specs.Sizes.{period}
use Rattle.number.specs.Number.{zero32, nearest32}
use Rattle.state.specs.declared.Chunk.{Chunk}
use Rattle.state.specs.declared.Signals.{Signals}
use Rattle.state.specs.declared.State.{State}
use Rattle.model.specs.Counts.{stride_of, chunks_most, frame_count, plan_total, control_total}
use Rattle.model.specs.Tick.{off_phase}
use Rattle.model.specs.Process.{Drawn}
use Rattle.lane_input.specs.declared.Scene.{Scene}
use Rattle.audio_rows.specs.declared.Work.{Work}

-- the scene at the start of a chunk
abbrev pub scene_of : State → Chunk → Bool → Scene
scene_of st c snap =
    record {
      stride = stride_of st;
      voices = st.voices;
      fresh = st.marks.fresh;
      gains = st.gains;
      primed = st.primed;
      frame = c.start;
      up_to = c.start + 1;
      steps = cond (off_phase c.phase) zero32 (nearest32 period);
      snap = snap;
    }

-- what the audio of a chunk is worked out from
abbrev pub work_of : State → Chunk → Bool → Signals → Work
work_of st c snap signals =
    record {
      plan = st.program.plan;
      routes = st.program.route;
      scene = scene_of st c snap;
      signals = signals;
      chunks = chunks_most st;
      frames = frame_count st;
      plans = plan_total st.program;
      control = control_total st.program;
    }

-- draws that stand so, with the values that they were put into
abbrev pub drawn_of : ℕ → List Float → Drawn
drawn_of x m = record { draw = x; values = m }
