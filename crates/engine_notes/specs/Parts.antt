-- The parts of a state that a note reads and writes, and what it sets. Definitions only.
use Rattle.std.specs.Prelude.{not, ◌||◌, ℕ}
use Rattle.state.specs.declared.State.{State}
use Rattle.model.specs.Counts.{stride_of, engine_sources}
use Rattle.model.specs.World.{World}
use Rattle.model.specs.NoteCalls.{Note, velocity_target, key_target, legato_of}
use Rattle.engine_notes.specs.declared.Lane.{Lane}
use Rattle.engine_notes.specs.declared.Sounding.{Sounding}
use Rattle.engine_notes.specs.declared.Setting.{Setting}

-- a voice's lane
abbrev pub lane_in : State → ℕ → Lane
lane_in st v = record { sources = engine_sources st; stride = stride_of st; voice = v }

abbrev pub sounding_of : State → Sounding
sounding_of st =
    record {
      voices = st.voices;
      marks = st.marks;
      velocity = st.velocity;
      key = st.key;
      alternate = st.alternate;
      draw = st.draw;
    }

-- the state with what sounds replaced
abbrev pub state_with : State → Sounding → State
state_with st s =
    record {
      config = st.config;
      sources = st.sources;
      dests = st.dests;
      mark = st.mark;
      voices = s.voices;
      marks = s.marks;
      velocity = s.velocity;
      key = s.key;
      gains = st.gains;
      alternate = s.alternate;
      draw = s.draw;
      limit = st.limit;
      phase = st.phase;
      block = st.block;
      primed = st.primed;
      program = st.program;
    }

-- what the note sets
abbrev pub setting_of : World → Note → Setting
setting_of w n =
    record {
      legato = n.legato;
      time = legato_of w n;
      rate = w.state.config.sample_rate;
      takes = not n.legato || w.state.program.velocity_legato;
      velocity = velocity_target w n;
      key = key_target w n;
    }
