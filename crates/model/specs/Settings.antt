-- Calls that make an engine, set its numbers, and install a program (engine.rs 273-446). Each with its rows in order; a
-- refused call changes nothing. Definitions only.
use Rattle.std.specs.Prelude.{Bool, true, false, not, cond, ◌&&◌, ◌||◌, List, [], ◌∷◌, ◌++◌, map, ℕ, ◌*◌, max, eqb, leb}
use Rattle.std.specs.Prelude.{ltb, length, set, replicate, Float}
use Rattle.std.specs.Float.Ieee.{eq}
use Rattle.config.specs.Sizes.{slots, most_sources, most_destinations, most_signal_stride}
use Rattle.config.specs.Configuration.{config_rows}
use Rattle.config.specs.declared.Config.{Config}
use Rattle.refusal.specs.Judge.{Row, ◌when◌, judged}
use Rattle.list.specs.Rows.{on_row}
use Rattle.number.specs.Number.{zero32, one32, finite}
use Rattle.slots.specs.Slots.{kept_amount, kept_output}
use Rattle.voice.specs.Voices.{no_voices}
use Rattle.voice.specs.Marks.{no_marks, marks_swapped}
use Rattle.voice.specs.Notes.{no_notes}
use Rattle.state.specs.declared.Source.{Source}
use Rattle.state.specs.declared.Sources.{Sources}
use Rattle.state.specs.declared.Destinations.{Destinations}
use Rattle.state.specs.declared.SourceMark.{SourceMark}
use Rattle.state.specs.declared.Gains.{Gains}
use Rattle.state.specs.declared.Program.{Program}
use Rattle.state.specs.declared.Signals.{Signals}
use Rattle.state.specs.Answers.{Bound}
use Rattle.state.specs.declared.State.{State}
use Rattle.state.specs.Registry.{source_count, dest_count, no_source, no_dest}
use Rattle.model.specs.Feeds.{is_voice}
use Rattle.model.specs.Compile.{empty_of, zeroed}
use Rattle.model.specs.Counts.{stride_of, engine_sources, engine_dests, route_total}
use Rattle.model.specs.Env.{no_part}
use Rattle.model.specs.World.{World, mark_at, held_place}
use Rattle.model.specs.States.{with_marks, with_gains, with_draw, with_limit, with_primed, with_program, put_state}
use Rattle.model.specs.States.{put_held, put_globals, put_bases}
use Rattle.model.specs.Process.{no_block}

-- what a call leaves
pub record Done : Type 0 where
  -- the number that it hands back
  pub code : ℕ
  -- engine and memories
  pub world : World

-- the next world where the rows accept
unfoldable pub done_by : List Row → World → World → Done
unfolding judged
done_by rows w next = record { code = judged rows; world = cond (eqb (judged rows) 0) next w }

-- ---- a fresh engine (engine.rs 276-331)

abbrev pub mark_of : Source → SourceMark
mark_of s = record { kind = s.kind; scope = s.scope }

unfoldable pub fresh_state : Sources → Destinations → Config → State
unfolding empty_of no_voices no_marks no_notes
fresh_state ss ds c =
    record {
      config = c;
      sources = source_count ss;
      dests = dest_count ds;
      mark = map mark_of ss.entry;
      voices = no_voices;
      marks = no_marks;
      velocity = no_notes;
      key = no_notes;
      gains = record { amount = replicate slots zero32; output = replicate slots one32 };
      alternate = false;
      draw = 0x9e37_79b9_7f4a_7c15;
      limit = max c.voices 1;
      phase = 0;
      block = no_block;
      primed = false;
      program = empty_of c;
    }

-- the world of a fresh engine: its memories 0 up to their needs
abbrev pub fresh_world : Sources → Destinations → Config → World → World
fresh_world ss ds c w =
    let st = fresh_state ss ds c in
    put_bases
    (put_globals (put_held (put_state w st) (zeroed (stride_of st * engine_sources st) w.held))
    (zeroed (engine_sources st) w.globals))
    (zeroed (engine_dests st) w.bases)

-- what a refused `new` answers: the fresh engine for rate 1, 0 frames, 0 voices, with nothing registered
abbrev pub refused_state : State
refused_state =
    fresh_state (record { count = 0; entry = replicate most_sources no_source })
    (record { count = 0; entry = replicate most_destinations no_dest })
    (record { sample_rate = one32; max_frames = 0; voices = 0 })

abbrev pub new_rows : Sources → Destinations → Config → World → List Row
new_rows ss ds c w =
    let st = fresh_state ss ds c in
    config_rows c.sample_rate c.max_frames c.voices
    ++ (14 when (ltb (length w.held) (stride_of st * engine_sources st)
    || (ltb (length w.globals) (engine_sources st) || ltb (length w.bases) (engine_dests st))) ∷ [])

-- of w the memories count
unfoldable pub new_engine : Sources → Destinations → Config → World → Done
unfolding judged fresh_state zeroed
new_engine ss ds c w =
    let code = judged (new_rows ss ds c w) in
    record { code = code; world = cond (eqb code 0) (fresh_world ss ds c w) (put_state w refused_state) }

-- ---- signals (engine.rs 36-66)

unfoldable pub unbound_signals : Signals
unbound_signals = record { part = replicate most_sources no_part }

-- the stride is kept as it is given; a source that there can't be changes nothing
unfoldable pub bind_signal : Signals → ℕ → ℕ → ℕ → ℕ → Bound
unfolding judged
bind_signal s src a n stride =
    let code = judged (13 when ltb most_signal_stride stride ∷ []) in
    record {
      code = code;
      signals = cond (eqb code 0)
          (record { part = set s.part src (record { at = a; len = n; stride = stride }) }) s;
    }

-- ---- rows

abbrev pub source_row : State → ℕ → Row
source_row st i = 3 when leb (engine_sources st) i

abbrev pub dest_row : State → ℕ → Row
dest_row st d = 4 when leb (engine_dests st) d

abbrev pub slot_row : ℕ → Row
slot_row n = 5 when leb slots n

abbrev pub number_row : Float → Row
number_row x = 6 when not (finite x)

abbrev pub held_short : World → Bool
held_short w = ltb (length w.held) (stride_of w.state * engine_sources w.state)

abbrev pub globals_short : World → Bool
globals_short w = ltb (length w.globals) (engine_sources w.state)

abbrev pub bases_short : World → Bool
bases_short w = ltb (length w.bases) (engine_dests w.state)

-- ---- setters

-- all lanes of a source per voice, the one number of a global one, engine-made sources too (engine.rs 394-404)
abbrev pub held_world : World → ℕ → Float → World
held_world w i x =
    cond (is_voice (mark_at w.state i).scope)
    (put_held w (on_row w.held (stride_of w.state) i (replicate (stride_of w.state) x)))
    (put_globals w (set w.globals i x))

abbrev pub held_rows : World → ℕ → Float → List Row
held_rows w i x = source_row w.state i ∷ number_row x ∷ 14 when (held_short w || globals_short w) ∷ []

unfoldable pub set_held : World → ℕ → Float → Done
unfolding done_by on_row
set_held w i x = done_by (held_rows w i x) w (held_world w i x)

-- the lane of the source, whatever its scope (engine.rs 407-412)
abbrev pub voice_held_rows : World → ℕ → ℕ → Float → List Row
voice_held_rows w i v x =
    2 when leb (stride_of w.state) v ∷ source_row w.state i ∷ number_row x ∷ 14 when held_short w ∷ []

unfoldable pub set_voice_held : World → ℕ → ℕ → Float → Done
unfolding done_by
set_voice_held w i v x = done_by (voice_held_rows w i v x) w (put_held w (set w.held (held_place w.state i v) x))

-- engine.rs 420-424
abbrev pub base_rows : World → ℕ → Float → List Row
base_rows w d x = dest_row w.state d ∷ number_row x ∷ 14 when bases_short w ∷ []

unfoldable pub set_base : World → ℕ → Float → Done
unfolding done_by
set_base w d x = done_by (base_rows w d x) w (put_bases w (set w.bases d x))

-- engine.rs 428-438: clamped to -1..1, and to 0..1
abbrev pub with_amount : Gains → ℕ → Float → Gains
with_amount g n x = record { amount = set g.amount n (kept_amount x); output = g.output }

abbrev pub with_output : Gains → ℕ → Float → Gains
with_output g n x = record { amount = g.amount; output = set g.output n (kept_output x) }

abbrev pub gain_rows : ℕ → Float → List Row
gain_rows n x = slot_row n ∷ number_row x ∷ []

unfoldable pub set_amount : World → ℕ → Float → Done
unfolding done_by
set_amount w n x =
    done_by (gain_rows n x) w (put_state w (with_gains w.state (with_amount w.state.gains n x)))

unfoldable pub set_output : World → ℕ → Float → Done
unfolding done_by
set_output w n x =
    done_by (gain_rows n x) w (put_state w (with_gains w.state (with_output w.state.gains n x)))

-- engine.rs 442-444
unfoldable pub set_voice_limit : World → ℕ → Done
unfolding done_by
set_voice_limit w n = done_by [] w (put_state w (with_limit w.state (max n 1)))

-- the state of the draws is this one (engine.rs 232)
unfoldable pub set_draw : World → ℕ → Done
unfolding done_by
set_draw w x = done_by [] w (put_state w (with_draw w.state x))

-- ---- a program is installed (engine.rs 356-376)

-- rate by ==, so that the two zeros are alike and a NaN differs from itself
abbrev pub same_config : Config → Config → Bool
same_config a b =
    eq a.sample_rate b.sample_rate && (eqb a.max_frames b.max_frames && eqb a.voices b.voices)

abbrev pub every_finite : List Float → Bool
every_finite [] = true
every_finite (x ∷ xs) = finite x && every_finite xs

-- a program's amounts and outputs, which become the engine's. The rates of its slews may be infinite, as those of 0
-- seconds are
abbrev pub gains_finite : Gains → Bool
gains_finite g = every_finite g.amount && every_finite g.output

abbrev pub swap_rows : State → Program → List Row
swap_rows st p =
    6 when not (gains_finite p.gains)
    ∷ 7 when not (same_config st.config p.config)
    ∷ 8 when (not (eqb (route_total p) 0) && (ltb (engine_sources st) p.sources || ltb (engine_dests st) p.dests))
    ∷ []

-- the state with p: unprimed, with its compiled amounts and outputs, active voices fresh and renoted
abbrev pub installed : State → Program → State
installed st p =
    with_marks (with_primed (with_gains (with_program st p) p.gains) false)
    (marks_swapped st.marks st.voices.active)

-- what it leaves; the memories are the caller's
pub record Swap : Type 0 where
  -- the number that it hands back
  pub code : ℕ
  -- the engine's state
  pub state : State
  -- the program that comes back
  pub program : Program

unfoldable pub swap_program : State → Program → Swap
unfolding judged
swap_program st p =
    let code = judged (swap_rows st p) in
    record { code = code; state = cond (eqb code 0) (installed st p) st; program = cond (eqb code 0) st.program p }
