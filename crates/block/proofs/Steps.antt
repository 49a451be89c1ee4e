-- The parts of a block, from what their helpers ensure. Assumes nothing.
use mathlib.Core.Path.{◌≡◌, refl, sym, ap, ◌∙◌}
use mathlib.Core.Bool.{Bool, true, false, cond, ◌&&◌}
use mathlib.Core.List.{List}
use Prim.Native.Nat.{ℕ, ◌+◌, ◌*◌, ◌≤◌, ◌<◌, min}
use native.Mathlib.Omega.{arith}
use mathlib.Core.Logic.{◌≢◌}
use borrow.Author.Tests.{ne_eqb}
use lib.Dec.{eqb}
use lib.Ieee.{Float}
use Rattle.config.specs.Sizes.{period}
use Rattle.voice.specs.declared.Notes.{Notes}
use Rattle.voice.specs.Notes.{advanced}
use Rattle.state.specs.declared.Chunk.{Chunk}
use Rattle.state.specs.declared.Signals.{Signals}
use Rattle.state.specs.declared.State.{State}
use Rattle.model.specs.Counts.{voice_count, frame_count, stride_of, chunks_most, engine_sources, plan_total, route_total}
use Rattle.model.specs.World.{World, world_of, is_velocity, is_key}
use Rattle.model.specs.States.{with_velocity, with_key, with_primed, put_state, put_held, put_values, put_audio}
use Rattle.number.specs.Number.{zero32, nearest32}
use Rattle.model.specs.Layout.{plan_size}
use Rattle.model.specs.Tick.{off_phase, tick_of}
use Rattle.model.specs.Audio.{audio_of}
use Rattle.model.specs.Process.{values_of, glided, ticked, rowed, put_sounds, sounded, snap_at, chunk_step}
use Rattle.lane_input.specs.declared.Scene.{Scene}
use Rattle.lane_input.specs.Scene.{env_of as sceneEnv}
use Rattle.control_tick.specs.Turn.{Given, IsTick}
use Rattle.plan_slews.specs.Seen.{Fits}
use Rattle.audio_rows.specs.declared.Work.{Work}
use Rattle.audio_rows.specs.Rows.{sounds}
use Rattle.audio_rows.specs.Work.{Sized, Installed, work_env, audio_room}
use Rattle.block_opening.specs.Marks.{moved_if}
use Rattle.block_opening.specs.Rows.{chunk_rows}
use Rattle.block_opening.proofs.Rows.{plans-fit}
use Rattle.block_opening.proofs.Worlds.{rowed-by-parts, glided-by-parts}
use Rattle.block.specs.Room.{Room, Keeps, audio_size}
use Rattle.block.specs.Scenes.{scene_of, work_of}

-- ---- what is kept

pub keeps_self : (st : State) → Keeps st st
keeps_self st = record { config = refl; sources = refl; program = refl }

pub keeps_on : {a b c : State} → Keeps a b → Keeps b c → Keeps a c
keeps_on f g = record { config = g.config ∙ f.config; sources = g.sources ∙ f.sources; program = g.program ∙ f.program }

module _ {st next : State} (k : Keeps st next) where
  pub chunks-kept : chunks_most next ≡ chunks_most st
  chunks-kept = rw k.config

  pub frames-kept : frame_count next ≡ frame_count st
  frames-kept = rw k.config

  pub sources-kept : stride_of next * engine_sources next ≡ stride_of st * engine_sources st
  sources-kept = rw (k.config, k.sources)

  pub values-kept : values_of next ≡ values_of st
  values-kept = rw (k.config, k.program)

  pub audio-kept : audio_size next ≡ audio_size st
  audio-kept = rw (k.config, k.program)

  pub room-kept : (h v b : ℕ) → Room st h v b → Room next h v b
  room-kept h v b r =
      record { held = omega (arith, sources-kept, r.held); values = omega (arith, values-kept, r.values); audio = omega (arith, audio-kept, r.audio) }

-- ---- the tick

pub steps-tick : (phase : ℕ) (x : Float) → phase ≡ 0 → x ≡ nearest32 32 → x ≡ cond (off_phase phase) zero32 (nearest32 period)
steps-tick phase x h e = e ∙ rw h

pub steps-off : (phase : ℕ) → phase ≢ 0 → zero32 ≡ cond (off_phase phase) zero32 (nearest32 period)
steps-off phase h = rw (ne_eqb phase 0 h)

module _ (st : State) (c : Chunk) (snap : Bool) (signals : Signals) (s : Scene) (e : s ≡ scene_of st c snap) where
  pub scene-fits : (chunks plans : ℕ) → chunks ≡ chunks_most st → plans ≡ plan_total st.program → Fits s chunks plans
  scene-fits chunks plans f g = rw (e, f, g) (record { stride = omega arith; chunks = omega arith; plans = omega arith })

  pub is-tick : (control chunks plans : ℕ) → control ≡ min st.program.control plans → chunks ≡ chunks_most st → plans ≡ plan_total st.program
      → IsTick st st.program.plan control st.program.route s.stride chunks plans
  is-tick control chunks plans h f g = rw (e, h, f, g) (record { plan = refl; control = refl; routes = refl; stride = refl; chunks = refl; plans = refl })

  pub given : (h g a b i : List Float) → Given (sceneEnv (scene_of st c snap) h g a b i signals) s signals h g a b i
  given h g a b i =
      rw e
      (record {
        scene = record { stride = refl; voices = refl; fresh = refl; gains = refl; primed = refl; signals = refl; frame = refl; up_to = refl; steps = refl; snap = refl };
        held = refl;
        globals = refl;
        bases = refl;
        tables = refl;
        samples = refl;
      })

module _ (st : State) (c : Chunk) (snap : Bool) (signals : Signals) (samples h g a v b t : List Float) where
  pub ticked-not : c.tick ≡ false → world_of st h g a v b t ≡ ticked samples signals c snap (world_of st h g a v b t)
  ticked-not e = rw e

  pub ticked-is : c.tick ≡ true → (m : List Float) → m ≡ tick_of st (sceneEnv (scene_of st c snap) h g a t samples signals) c.phase v
      → world_of (with_primed st true) h g a m b t ≡ ticked samples signals c snap (world_of st h g a v b t)
  unfolding put_state put_values
  ticked-is e m f = rw (e, f)

pub primed-keeps : (st : State) → Keeps st (with_primed st true)
unfolding with_primed
primed-keeps st = record { config = refl; sources = refl; program = refl }

-- ---- rows and audio

pub rows_fit : (st : State) (i stride chunks plans control n : ℕ) → stride ≡ stride_of st → chunks ≡ chunks_most st → plans ≡ plan_total st.program
    → control ≡ min st.program.control plans → i < chunks_most st → values_of st ≤ n
    → (1 ≤ stride) × (stride ≤ 64) × (chunks ≤ 130) × (i < chunks) × (control ≤ 64) × (control * plan_size stride chunks ≤ n)
rows_fit st i stride chunks plans control n es en ep ec hi hv =
    let k : control ≤ plan_total st.program = omega arith in
    (omega arith, omega arith, omega arith, omega arith, omega arith, rw (es, en) (plans-fit (stride_of st) (chunks_most st) (plan_total st.program) (route_total st.program) control n k hv))

pub rowed-is : (st : State) (i : ℕ) (h g a v b t m : List Float) (control stride chunks plans : ℕ) → plans ≡ plan_total st.program
    → control ≡ min st.program.control plans → stride ≡ stride_of st → chunks ≡ chunks_most st
    → m ≡ chunk_rows st.program.plan stride chunks i control v → world_of st h g a m b t ≡ rowed i (world_of st h g a v b t)
unfolding put_values
rowed-is st i h g a v b t m control stride chunks plans ep ec es en em =
    rw (em, ec, ep, es, en) (sym (rowed-by-parts (world_of st h g a v b t) i))

module _ (st : State) (c : Chunk) (snap : Bool) (signals : Signals) (w : Work) (e : w ≡ work_of st c snap signals) where
  pub work-sized : c.start + c.len ≤ frame_count st → Sized w c
  work-sized h =
      rw e (record { lanes = omega arith; stride = omega arith; chunks = omega arith; frames = omega arith; plans = omega arith; control = omega arith; end = h })

  pub work-room : (n : ℕ) → audio_size st ≤ n → audio_room w ≤ n
  work-room n h = rw e h

  installed : Installed st w
  installed = rw e (record { stride = refl; chunks = refl; frames = refl; plans = refl; control = refl; plan = refl; routes = refl })

  pub sounded-is : (samples h g a v b t m n : List Float)
      → ((u : State) → Installed u w → sounds m n ≡ audio_of u (work_env w h g a t samples) c (sounds v b))
      → world_of st h g a m n t ≡ sounded samples signals c snap (world_of st h g a v b t)
  unfolding put_values put_audio
  sounded-is samples h g a v b t m n f =
      let x : sounds m n ≡ audio_of st (sceneEnv (scene_of st c snap) h g a t samples signals) c (sounds v b) = f st installed ∙ rw e in
      ap (put_sounds (world_of st h g a v b t)) x

-- ---- glides

pub held-fit : (st : State) (stride sources voices n : ℕ) → stride ≡ stride_of st → sources ≡ engine_sources st → voices ≡ voice_count st
    → stride_of st * engine_sources st ≤ n → (sources ≤ 128) × (stride ≤ 64) × (voices ≤ stride) × (stride * sources ≤ n)
held-fit st stride sources voices n es eo ev h = (omega arith, omega arith, omega arith, rw (es, eo) h)

pub glided-is : (frames : ℕ) (st : State) (h g a v b t m n : List Float) (stride sources voices : ℕ) (vel key : Notes)
    → stride ≡ stride_of st → sources ≡ engine_sources st → voices ≡ voice_count st → vel ≡ advanced st.velocity frames → key ≡ advanced st.key frames
    → m ≡ moved_if st.mark is_velocity stride sources st.velocity.glide vel.value voices h
    → n ≡ moved_if st.mark is_key stride sources st.key.glide key.value voices m
    → world_of (with_key (with_velocity st vel) key) n g a v b t ≡ glided frames (world_of st h g a v b t)
unfolding put_held put_state
glided-is frames st h g a v b t m n stride sources voices vel key es eo ev f k em en =
    rw (en, em, f, k, es, eo, ev) (sym (glided-by-parts (world_of st h g a v b t) frames))

pub glided-keeps : (st : State) (vel key : Notes) → Keeps st (with_key (with_velocity st vel) key)
unfolding with_key with_velocity
glided-keeps st vel key = record { config = refl; sources = refl; program = refl }

-- ---- the step

pub snap-first : (i : ℕ) (b : Bool) → i ≡ 0 → b ≡ (eqb i 0 && b)
snap-first i b e = rw e

-- of worlds, one after the other
pub step_is : (samples : List Float) (signals : Signals) (i : ℕ) (c : Chunk) (snap : Bool) (w x y z o : World) → snap ≡ snap_at i w
    → x ≡ ticked samples signals c snap w → y ≡ rowed i x → z ≡ sounded samples signals c snap y → o ≡ glided c.len z
    → o ≡ chunk_step samples signals i c w
unfolding chunk_step
step_is samples signals i c snap w x y z o es ex ey ez eo = eo ∙ rw (ez, ey, ex, es)
