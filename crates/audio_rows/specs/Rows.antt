-- The audio rows of one plan, by where the first of them lies. Definitions only.
use Rattle.std.specs.Prelude.{◌≡◌, Bool, ◌&&◌, List, ℕ, zero, suc, ◌+◌, ◌*◌, eqb, Float}
use Rattle.number.specs.Number.{one32}
use Rattle.state.specs.declared.Chunk.{Chunk}
use Rattle.state.specs.declared.State.{State}
use Rattle.model.specs.Counts.{stride_of, chunks_most, plan_total, plan_at}
use Rattle.model.specs.Env.{Env}
use Rattle.model.specs.Layout.{plan_width}
use Rattle.model.specs.Mix.{plan_mix}
use Rattle.model.specs.Slews.{source_after, aux_after}
use Rattle.model.specs.Tick.{mix_width, fill_from, lanes_from, rows_of, own_of, put_slews, slew_after}
use Rattle.model.specs.Audio.{Sounds, new_audio, at_frame}
use Rattle.lane_input.specs.declared.Scene.{Scene}
use Rattle.lane_input.specs.Scene.{env_of}
use Rattle.plan_sum.specs.declared.Job.{Job}

-- the two memories
abbrev pub sounds : List Float → List Float → Sounds
sounds v a = record { values = v; audio = a }

-- the scene at frame k of a chunk that ends at `end`
abbrev pub scene_at : Scene → ℕ → ℕ → Bool → Scene
scene_at s k end snap =
    record {
      stride = s.stride;
      voices = s.voices;
      fresh = s.fresh;
      gains = s.gains;
      primed = s.primed;
      frame = k;
      up_to = end;
      steps = one32;
      snap = snap;
    }

-- the job at frame n of a chunk
abbrev pub job_at : Job → Chunk → ℕ → Job
job_at w c n =
    record {
      plan = w.plan;
      routes = w.routes;
      scene = scene_at w.scene (c.start + n) (c.start + c.len) (w.scene.snap && eqb n 0);
      signals = w.signals;
      chunks = w.chunks;
      plans = w.plans;
      simple = w.simple;
    }

-- what a job's numbers are worked out from, with held numbers h, globals g, bases a, tables b and samples i
abbrev pub job_env : Job → List Float → List Float → List Float → List Float → List Float → Env
job_env w h g a b i = env_of w.scene h g a b i w.signals

-- the job is plan d's of st
pub record Of (st : State) (d : ℕ) (w : Job) : Type 0 where
  pub stride : stride_of st ≡ w.scene.stride
  pub chunks : chunks_most st ≡ w.chunks
  pub plans : plan_total st.program ≡ w.plans
  pub plan : plan_at st d ≡ w.plan
  pub routes : st.program.route ≡ w.routes

-- the numbers of a row of plan d
abbrev pub width_at : State → ℕ → ℕ
width_at st d = plan_width (stride_of st) (plan_at st d).voice

-- the frame of plan d, whose row starts at a
unfoldable pub row_frame : State → Env → ℕ → ℕ → Sounds → Sounds
unfolding fill_from put_slews new_audio source_after aux_after
row_frame st t d a m =
    let x = plan_mix st d in
    let f = rows_of st m.values in
    let s = own_of st m.values d in
    record {
      values = put_slews st d (slew_after t x f s) (plan_at st d).count m.values;
      audio = fill_from m.audio a (new_audio t x f s (lanes_from m.audio a)) (mix_width t x);
    }

-- the first n frames of the chunk, of plan d, whose rows start at a
unfoldable pub row_frames : State → Env → Chunk → ℕ → ℕ → ℕ → Sounds → Sounds
unfolding row_frame
row_frames st t c d a zero m = m
row_frames st t c d a (suc n) m =
    row_frame st (at_frame t (c.start + n) (c.start + c.len) (t.snap && eqb n 0)) d (a + n * width_at st d) (row_frames st t c d a n m)
