-- A block: open (load, draws), a step a chunk (tick, chunk rows, audio rows, glides), close (phase, marks) (engine.rs
-- 547-611, 756-769, 804-1011; document 01, Chunk and value). Definitions only.
use Rattle.std.specs.Prelude.{Bool, true, false, cond, ◌&&◌, ◌||◌, List, [], ◌∷◌, ℕ, zero, suc, ◌+◌, ◌-◌, ◌*◌, ◌%◌, eqb}
use Rattle.std.specs.Prelude.{Option, Some, None}
use Rattle.std.specs.Prelude.{ltb, length, get_or, set, Float}
use Rattle.config.specs.Sizes.{period, most_signal_stride}
use Rattle.draw.specs.Xorshift.{step, draw_of}
use Rattle.refusal.specs.Judge.{Row, ◌when◌, judged}
use Rattle.number.specs.Number.{zero32, one32, over, min32, nearest32}
use Rattle.voice.specs.declared.Notes.{Notes}
use Rattle.voice.specs.Voices.{active_count}
use Rattle.voice.specs.Marks.{marks_cleared}
use Rattle.voice.specs.Notes.{moving, glide_of, value_of, advanced}
use Rattle.state.specs.declared.Kind.{Kind}
use Rattle.state.specs.declared.Read.{Read}
use Rattle.state.specs.declared.Read.TheVariants as D
use Rattle.state.specs.declared.Input.{Input}
use Rattle.state.specs.declared.Block.{Block}
use Rattle.state.specs.declared.Chunk.{Chunk}
use Rattle.state.specs.declared.SignalPart.{SignalPart}
use Rattle.state.specs.declared.Signals.{Signals}
use Rattle.state.specs.declared.State.{State}
use Rattle.slots_tables.specs.Tables.{tables_need}
use Rattle.model.specs.Need.{values_need, audio_need}
use Rattle.model.specs.Counts.{voice_count, frame_count, stride_of, chunks_most, engine_sources, engine_dests}
use Rattle.model.specs.Counts.{plan_total, control_total, route_total, phase_of, plan_at, route_at}
use Rattle.model.specs.Env.{Env}
use Rattle.model.specs.Layout.{plan_width, plan_from, plan_to, chunk_from, chunk_to, route_random}
use Rattle.model.specs.Tick.{off_phase, fill_from, lanes_from, tick_of}
use Rattle.model.specs.Audio.{Sounds, audio_of}
use Rattle.model.specs.Chunks.{chunk_total, chunk_of}
use Rattle.model.specs.World.{World, held_of, is_velocity, is_key, load_by}
use Rattle.model.specs.States.{with_marks, with_velocity, with_key, with_draw, with_phase, with_block, with_primed}
use Rattle.model.specs.States.{put_state, put_held, put_globals, put_values, put_audio}

-- ---- rows 1, 13 and 14

abbrev pub any_stride : List SignalPart → Bool
any_stride [] = false
any_stride (p ∷ ps) = ltb most_signal_stride p.stride || any_stride ps

-- a part that does not lie inside n samples
abbrev pub any_outside : ℕ → List SignalPart → Bool
any_outside n [] = false
any_outside n (p ∷ ps) = ltb n p.at || (ltb (n - p.at) p.len || any_outside n ps)

abbrev pub engine_short : World → Bool
engine_short w =
    ltb (length w.held) (stride_of w.state * engine_sources w.state)
    || (ltb (length w.globals) (engine_sources w.state) || ltb (length w.bases) (engine_dests w.state))

-- what the installed program needs
abbrev pub values_of : State → ℕ
values_of st = values_need (voice_count st) (frame_count st) (plan_total st.program) (route_total st.program)

abbrev pub audio_need_of : State → ℕ
audio_need_of st = audio_need (voice_count st) (frame_count st) (plan_total st.program)

abbrev pub tables_need_of : State → ℕ
tables_need_of st = cond st.program.tabled tables_need 0

abbrev pub program_short : World → Bool
program_short w =
    ltb (length w.values) (values_of w.state)
    || (ltb (length w.audio) (audio_need_of w.state) || ltb (length w.tables) (tables_need_of w.state))

abbrev pub process_rows : World → List Float → Signals → ℕ → List Row
process_rows w samples signals end =
    1 when ltb (frame_count w.state) end
    ∷ 13 when any_stride signals.part
    ∷ 14 when (engine_short w || (program_short w || any_outside (length samples) signals.part))
    ∷ []

-- ---- glides: note values move, and held numbers with them (engine.rs 733-754)

-- of the first n voices, those whose value moved are written to the sources of the kind
unfoldable pub moved_held : State → (Kind → Bool) → Notes → Notes → ℕ → List Float → List Float
moved_held st p old new zero m = m
moved_held st p old new (suc n) m =
    let before = moved_held st p old new n m in
    cond (moving (glide_of old n)) (held_of st p n (value_of new n) before) before

unfoldable pub glided : ℕ → World → World
glided frames w =
    let st = w.state in
    let v = advanced st.velocity frames in
    let k = advanced st.key frames in
    let m = moved_held st is_velocity st.velocity v (voice_count st) w.held in
    put_held (put_state w (with_key (with_velocity st v) k)) (moved_held st is_key st.key k (voice_count st) m)

-- ---- open

-- "active voices over the voice limit, … and at most 1"
abbrev pub load_of : State → Float
load_of st = min32 (over (nearest32 (active_count st.voices (voice_count st))) (nearest32 st.limit)) one32

abbrev pub loaded : World → World
loaded w = put_globals w (load_by w.state (load_of w.state) (engine_sources w.state) w.globals)

pub record Drawn : Type 0 where
  -- the state of the draws
  pub draw : ℕ
  -- the lent values, in which random inputs stand
  pub values : List Float

-- one draw for each renoted voice of the first n, from place a on
unfoldable pub draw_voices : State → ℕ → ℕ → Drawn → Drawn
draw_voices st a zero d = d
draw_voices st a (suc n) d =
    let before = draw_voices st a n d in
    cond (get_or st.marks.renoted n false)
    (record { draw = step before.draw; values = set before.values (a + n) (draw_of (step before.draw)) })
    before

abbrev pub random_start : State → ℕ → ℕ → ℕ
random_start st r p = route_random (stride_of st) (chunks_most st) (plan_total st.program) r p

abbrev pub draw_read : State → ℕ → ℕ → Read → Drawn → Drawn
draw_read st r p (D.Signal i v) d = d
draw_read st r p (D.Held i v) d = d
draw_read st r p (D.Fed e v) d = d
draw_read st r p D.Constant d = d
draw_read st r p D.RouteRandom d = draw_voices st (random_start st r p) (voice_count st) d

abbrev pub draw_aux : State → ℕ → Option Input → Drawn → Drawn
draw_aux st r None d = d
draw_aux st r (Some i) d = draw_read st r 1 i.read d

-- "in route order, source before aux": the first n routes
unfoldable pub draw_routes : State → ℕ → Drawn → Drawn
unfolding draw_voices
draw_routes st zero d = d
draw_routes st (suc n) d =
    draw_aux st n (route_at st n).aux (draw_read st n 0 (route_at st n).source.read (draw_routes st n d))

abbrev pub put_drawn : World → Drawn → World
put_drawn w d = put_values (put_state w (with_draw w.state d.draw)) d.values

abbrev pub drawn : World → World
drawn w =
    cond w.state.marks.any_renoted
    (put_drawn w (draw_routes w.state (route_total w.state.program)
    (record { draw = w.state.draw; values = w.values })))
    w

-- ---- a chunk

abbrev pub env_of : World → List Float → Signals → Chunk → Bool → Env
env_of w samples signals c snap =
    record {
      stride = stride_of w.state;
      voices = w.state.voices;
      fresh = w.state.marks.fresh;
      gains = w.state.gains;
      primed = w.state.primed;
      held = w.held;
      globals = w.globals;
      bases = w.bases;
      tables = w.tables;
      samples = samples;
      signals = signals;
      frame = c.start;
      up_to = c.start + 1;
      steps = cond (off_phase c.phase) zero32 (nearest32 period);
      snap = snap;
    }

-- fresh lanes snap in the first chunk
abbrev pub snap_at : ℕ → World → Bool
snap_at i w = eqb i 0 && w.state.marks.any_fresh

-- control values change at a tick, and the program is then primed
abbrev pub primed_with : World → List Float → World
primed_with w m = put_state (put_values w m) (with_primed w.state true)

abbrev pub ticked : List Float → Signals → Chunk → Bool → World → World
ticked samples signals c snap w =
    cond c.tick (primed_with w (tick_of w.state (env_of w samples signals c snap) c.phase w.values)) w

-- the rows of the chunk, number i, of the first n control plans (engine.rs 934-939)
abbrev pub row_of_chunk : State → ℕ → ℕ → List Float → List Float
row_of_chunk st i d m =
    let s = stride_of st in
    let c = chunks_most st in
    let v = plan_width s (plan_at st d).voice in
    let from = fill_from m (chunk_from s c d v i) (lanes_from m (plan_from s c d)) v in
    fill_from from (chunk_to s c d v i) (lanes_from from (plan_to s c d)) v

unfoldable pub rows_of_chunk : State → ℕ → ℕ → List Float → List Float
unfolding fill_from
rows_of_chunk st i zero m = m
rows_of_chunk st i (suc n) m = row_of_chunk st i n (rows_of_chunk st i n m)

abbrev pub rowed : ℕ → World → World
rowed i w = put_values w (rows_of_chunk w.state i (control_total w.state.program) w.values)

abbrev pub put_sounds : World → Sounds → World
put_sounds w m = put_audio (put_values w m.values) m.audio

abbrev pub sounded : List Float → Signals → Chunk → Bool → World → World
sounded samples signals c snap w =
    put_sounds w (audio_of w.state (env_of w samples signals c snap) c
    (record { values = w.values; audio = w.audio }))

-- what follows the tick: chunk rows, audio rows, glides
abbrev pub after_tick : List Float → Signals → ℕ → Chunk → Bool → World → World
after_tick samples signals i c snap w = glided c.len (sounded samples signals c snap (rowed i w))

-- THE STEP of chunk i
unfoldable pub chunk_step : List Float → Signals → ℕ → Chunk → World → World
unfolding tick_of rows_of_chunk audio_of glided
chunk_step samples signals i c w =
    let snap = snap_at i w in after_tick samples signals i c snap (ticked samples signals c snap w)

-- the first n chunks of a block
unfoldable pub chunk_steps : List Float → Signals → Block → ℕ → World → World
unfolding chunk_step
chunk_steps samples signals b zero w = w
chunk_steps samples signals b (suc n) w =
    chunk_step samples signals n (chunk_of b n) (chunk_steps samples signals b n w)

-- ---- close

abbrev pub closed : Block → ℕ → World → World
closed b len w =
    put_state w (with_block (with_marks (with_phase w.state ((phase_of w.state + len) % period))
    (marks_cleared w.state.marks)) b)

-- ---- the block

abbrev pub block_of : State → ℕ → ℕ → Block
block_of st start end = record { start = start; end = end; phase = phase_of st; first_tick = st.marks.any_fresh }

-- "With no routes, glides (once, by the whole length) and clock move, the fresh and renoted marks clear, the chunk list
-- empties"
abbrev pub no_block : Block
no_block = record { start = 0; end = 0; phase = 0; first_tick = false }

abbrev pub routeless : ℕ → World → World
routeless len w = closed no_block len (glided len w)

abbrev pub routed : List Float → Signals → ℕ → ℕ → World → World
routed samples signals start end w =
    let b = block_of w.state start end in
    closed b (end - start) (chunk_steps samples signals b (chunk_total b) (drawn (loaded w)))

-- a nonempty range
abbrev pub over_range : List Float → Signals → ℕ → ℕ → World → World
over_range samples signals start end w =
    cond (eqb (route_total w.state.program) 0) (routeless (end - start) w) (routed samples signals start end w)

-- THE CALL: a refused one, and an empty range, change nothing
pub record Processed : Type 0 where
  -- the number that the call hands back
  pub code : ℕ
  -- engine and memories afterwards
  pub world : World

unfoldable pub process : World → List Float → Signals → ℕ → ℕ → Processed
unfolding judged chunk_steps glided
process w samples signals start end =
    let code = judged (process_rows w samples signals end) in
    record { code = code; world = cond (eqb code 0 && ltb start end) (over_range samples signals start end w) w }
