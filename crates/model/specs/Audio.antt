-- The audio rows of a chunk: frame after frame, slews moving by one sample (engine.rs 940-1006, 1224-1294; document 01,
-- Chunk and value). Definitions only.
use Rattle.std.specs.Prelude.{Bool, true, false, not, cond, ◌&&◌, ◌||◌, List, ℕ, zero, suc, ◌+◌, ◌-◌, eqb, Float}
use Rattle.std.specs.Float.{inf}
use Rattle.std.specs.Float.Ieee.{lt}
use Rattle.number.specs.Number.{one32, hold}
use Rattle.state.specs.declared.Chunk.{Chunk}
use Rattle.state.specs.declared.State.{State}
use Rattle.model.specs.Counts.{frame_count, stride_of, plan_total, control_total, plan_at}
use Rattle.model.specs.Env.{Env, Rows, Own}
use Rattle.model.specs.Mix.{Mix, plan_mix}
use Rattle.model.specs.Lanes.{in_span}
use Rattle.model.specs.Layout.{plan_width, audio_row}
use Rattle.model.specs.Sums.{has_plain, all_plain, audio_sum}
use Rattle.model.specs.Slews.{source_after, aux_after}
use Rattle.model.specs.Tick.{mix_width, fill_from, lanes_from, rows_of, own_of, put_slews, slew_after}

-- "In audio two infinite bounds hold nothing" (engine.rs 948-949)
abbrev pub bounded : Mix → Bool
bounded x = lt (inf true) x.min || lt x.max (inf false)

-- every route is plain, and there are some
abbrev pub whole_plain : Env → Mix → Bool
whole_plain t x = has_plain t x && all_plain t x x.count

-- old audio outside the span is held "unless all routes are plain"
abbrev pub holds : Env → Mix → ℕ → Bool
holds t x l = bounded x && (not (whole_plain t x) || in_span t l)

-- THE NUMBER in lane l at the frame; old: what stood in the lanes
unfoldable pub new_audio : Env → Mix → Rows → Own → (ℕ → Float) → ℕ → Float
unfolding audio_sum all_plain in_span
new_audio t x f s old l =
    let y = audio_sum t f s x (old l) l in
    cond (holds t x l) (hold x.min x.max y) y

-- ---- in the lent memories

pub record Sounds : Type 0 where
  -- control values, ramps, slews and random inputs of a program
  pub values : List Float
  -- its audio rows
  pub audio : List Float

abbrev pub row_start : State → ℕ → ℕ → ℕ
row_start st d k = audio_row (stride_of st) (frame_count st) d (plan_width (stride_of st) (plan_at st d).voice) k

-- the frame of plan d: its row, and its slews
unfoldable pub audio_frame : State → Env → ℕ → Sounds → Sounds
unfolding fill_from put_slews new_audio source_after aux_after
audio_frame st t d m =
    let x = plan_mix st d in
    let f = rows_of st m.values in
    let s = own_of st m.values d in
    let a = row_start st d t.frame in
    record {
      values = put_slews st d (slew_after t x f s) (plan_at st d).count m.values;
      audio = fill_from m.audio a (new_audio t x f s (lanes_from m.audio a)) (mix_width t x);
    }

-- t at frame k of a chunk that ends at `end`: fresh lanes snap at the chunk's first frame
abbrev pub at_frame : Env → ℕ → ℕ → Bool → Env
at_frame t k end snap =
    record {
      stride = t.stride;
      voices = t.voices;
      fresh = t.fresh;
      gains = t.gains;
      primed = t.primed;
      held = t.held;
      globals = t.globals;
      bases = t.bases;
      tables = t.tables;
      samples = t.samples;
      signals = t.signals;
      frame = k;
      up_to = end;
      steps = one32;
      snap = snap;
    }

-- the first n frames of the chunk, of plan d; snap: of the chunk
unfoldable pub audio_frames : State → Env → Chunk → ℕ → ℕ → Sounds → Sounds
unfolding audio_frame
audio_frames st t c d zero m = m
audio_frames st t c d (suc n) m =
    audio_frame st (at_frame t (c.start + n) (c.start + c.len) (t.snap && eqb n 0)) d (audio_frames st t c d n m)

-- the first k audio plans
unfoldable pub audio_plans : State → Env → Chunk → ℕ → Sounds → Sounds
unfolding audio_frames
audio_plans st t c zero m = m
audio_plans st t c (suc k) m = audio_frames st t c (control_total st.program + k) c.len (audio_plans st t c k m)

-- THE AUDIO of a chunk
unfoldable pub audio_of : State → Env → Chunk → Sounds → Sounds
unfolding audio_plans
audio_of st t c m = audio_plans st t c (plan_total st.program - control_total st.program) m
