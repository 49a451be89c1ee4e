-- A state with one part replaced, and a world with one. Definitions only.
use Rattle.std.specs.Prelude.{Bool, List, ℕ, Float}
use Rattle.voice.specs.declared.Voices.{Voices}
use Rattle.voice.specs.declared.Marks.{Marks}
use Rattle.voice.specs.declared.Notes.{Notes}
use Rattle.state.specs.declared.Gains.{Gains}
use Rattle.state.specs.declared.Block.{Block}
use Rattle.state.specs.declared.Program.{Program}
use Rattle.state.specs.declared.State.{State}
use Rattle.model.specs.World.{World}

unfoldable pub with_voices : State → Voices → State
with_voices st x =
    record {
      config = st.config;
      sources = st.sources;
      dests = st.dests;
      mark = st.mark;
      voices = x;
      marks = st.marks;
      velocity = st.velocity;
      key = st.key;
      gains = st.gains;
      alternate = st.alternate;
      draw = st.draw;
      limit = st.limit;
      phase = st.phase;
      block = st.block;
      primed = st.primed;
      program = st.program;
    }

unfoldable pub with_marks : State → Marks → State
with_marks st x =
    record {
      config = st.config;
      sources = st.sources;
      dests = st.dests;
      mark = st.mark;
      voices = st.voices;
      marks = x;
      velocity = st.velocity;
      key = st.key;
      gains = st.gains;
      alternate = st.alternate;
      draw = st.draw;
      limit = st.limit;
      phase = st.phase;
      block = st.block;
      primed = st.primed;
      program = st.program;
    }

unfoldable pub with_velocity : State → Notes → State
with_velocity st x =
    record {
      config = st.config;
      sources = st.sources;
      dests = st.dests;
      mark = st.mark;
      voices = st.voices;
      marks = st.marks;
      velocity = x;
      key = st.key;
      gains = st.gains;
      alternate = st.alternate;
      draw = st.draw;
      limit = st.limit;
      phase = st.phase;
      block = st.block;
      primed = st.primed;
      program = st.program;
    }

unfoldable pub with_key : State → Notes → State
with_key st x =
    record {
      config = st.config;
      sources = st.sources;
      dests = st.dests;
      mark = st.mark;
      voices = st.voices;
      marks = st.marks;
      velocity = st.velocity;
      key = x;
      gains = st.gains;
      alternate = st.alternate;
      draw = st.draw;
      limit = st.limit;
      phase = st.phase;
      block = st.block;
      primed = st.primed;
      program = st.program;
    }

unfoldable pub with_gains : State → Gains → State
with_gains st x =
    record {
      config = st.config;
      sources = st.sources;
      dests = st.dests;
      mark = st.mark;
      voices = st.voices;
      marks = st.marks;
      velocity = st.velocity;
      key = st.key;
      gains = x;
      alternate = st.alternate;
      draw = st.draw;
      limit = st.limit;
      phase = st.phase;
      block = st.block;
      primed = st.primed;
      program = st.program;
    }

unfoldable pub with_alternate : State → Bool → State
with_alternate st x =
    record {
      config = st.config;
      sources = st.sources;
      dests = st.dests;
      mark = st.mark;
      voices = st.voices;
      marks = st.marks;
      velocity = st.velocity;
      key = st.key;
      gains = st.gains;
      alternate = x;
      draw = st.draw;
      limit = st.limit;
      phase = st.phase;
      block = st.block;
      primed = st.primed;
      program = st.program;
    }

unfoldable pub with_draw : State → ℕ → State
with_draw st x =
    record {
      config = st.config;
      sources = st.sources;
      dests = st.dests;
      mark = st.mark;
      voices = st.voices;
      marks = st.marks;
      velocity = st.velocity;
      key = st.key;
      gains = st.gains;
      alternate = st.alternate;
      draw = x;
      limit = st.limit;
      phase = st.phase;
      block = st.block;
      primed = st.primed;
      program = st.program;
    }

unfoldable pub with_limit : State → ℕ → State
with_limit st x =
    record {
      config = st.config;
      sources = st.sources;
      dests = st.dests;
      mark = st.mark;
      voices = st.voices;
      marks = st.marks;
      velocity = st.velocity;
      key = st.key;
      gains = st.gains;
      alternate = st.alternate;
      draw = st.draw;
      limit = x;
      phase = st.phase;
      block = st.block;
      primed = st.primed;
      program = st.program;
    }

unfoldable pub with_phase : State → ℕ → State
with_phase st x =
    record {
      config = st.config;
      sources = st.sources;
      dests = st.dests;
      mark = st.mark;
      voices = st.voices;
      marks = st.marks;
      velocity = st.velocity;
      key = st.key;
      gains = st.gains;
      alternate = st.alternate;
      draw = st.draw;
      limit = st.limit;
      phase = x;
      block = st.block;
      primed = st.primed;
      program = st.program;
    }

unfoldable pub with_block : State → Block → State
with_block st x =
    record {
      config = st.config;
      sources = st.sources;
      dests = st.dests;
      mark = st.mark;
      voices = st.voices;
      marks = st.marks;
      velocity = st.velocity;
      key = st.key;
      gains = st.gains;
      alternate = st.alternate;
      draw = st.draw;
      limit = st.limit;
      phase = st.phase;
      block = x;
      primed = st.primed;
      program = st.program;
    }

unfoldable pub with_primed : State → Bool → State
with_primed st x =
    record {
      config = st.config;
      sources = st.sources;
      dests = st.dests;
      mark = st.mark;
      voices = st.voices;
      marks = st.marks;
      velocity = st.velocity;
      key = st.key;
      gains = st.gains;
      alternate = st.alternate;
      draw = st.draw;
      limit = st.limit;
      phase = st.phase;
      block = st.block;
      primed = x;
      program = st.program;
    }

unfoldable pub with_program : State → Program → State
with_program st x =
    record {
      config = st.config;
      sources = st.sources;
      dests = st.dests;
      mark = st.mark;
      voices = st.voices;
      marks = st.marks;
      velocity = st.velocity;
      key = st.key;
      gains = st.gains;
      alternate = st.alternate;
      draw = st.draw;
      limit = st.limit;
      phase = st.phase;
      block = st.block;
      primed = st.primed;
      program = x;
    }

unfoldable pub put_state : World → State → World
put_state w x =
    record {
      state = x;
      held = w.held;
      globals = w.globals;
      bases = w.bases;
      values = w.values;
      audio = w.audio;
      tables = w.tables;
    }

unfoldable pub put_held : World → List Float → World
put_held w x =
    record {
      state = w.state;
      held = x;
      globals = w.globals;
      bases = w.bases;
      values = w.values;
      audio = w.audio;
      tables = w.tables;
    }

unfoldable pub put_globals : World → List Float → World
put_globals w x =
    record {
      state = w.state;
      held = w.held;
      globals = x;
      bases = w.bases;
      values = w.values;
      audio = w.audio;
      tables = w.tables;
    }

unfoldable pub put_bases : World → List Float → World
put_bases w x =
    record {
      state = w.state;
      held = w.held;
      globals = w.globals;
      bases = x;
      values = w.values;
      audio = w.audio;
      tables = w.tables;
    }

unfoldable pub put_values : World → List Float → World
put_values w x =
    record {
      state = w.state;
      held = w.held;
      globals = w.globals;
      bases = w.bases;
      values = x;
      audio = w.audio;
      tables = w.tables;
    }

unfoldable pub put_audio : World → List Float → World
put_audio w x =
    record {
      state = w.state;
      held = w.held;
      globals = w.globals;
      bases = w.bases;
      values = w.values;
      audio = x;
      tables = w.tables;
    }
