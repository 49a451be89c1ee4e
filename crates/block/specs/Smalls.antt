-- All that a block moves of a state. Definitions only.
use Rattle.state.specs.declared.State.{State}
use Rattle.block.specs.declared.Small.{Small}

-- as it stands in st
abbrev pub small_of : State → Small
small_of st =
    record {
      primed = st.primed;
      draw = st.draw;
      phase = st.phase;
      velocity = st.velocity;
      key = st.key;
      marks = st.marks;
      block = st.block;
    }

-- st with what has moved
abbrev pub with_small : State → Small → State
with_small st s =
    record {
      config = st.config;
      sources = st.sources;
      dests = st.dests;
      mark = st.mark;
      voices = st.voices;
      marks = s.marks;
      velocity = s.velocity;
      key = s.key;
      gains = st.gains;
      alternate = st.alternate;
      draw = s.draw;
      limit = st.limit;
      phase = s.phase;
      block = s.block;
      primed = s.primed;
      program = st.program;
    }
