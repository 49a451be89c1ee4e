-- The state before any call, by its counts and marks. Definitions only.
use Rattle.std.specs.Prelude.{false, List, ℕ, max, replicate}
use Rattle.config.specs.Sizes.{slots}
use Rattle.config.specs.declared.Config.{Config}
use Rattle.number.specs.Number.{zero32, one32}
use Rattle.voice.specs.Voices.{no_voices}
use Rattle.voice.specs.Marks.{no_marks}
use Rattle.voice.specs.Notes.{no_notes}
use Rattle.state.specs.declared.SourceMark.{SourceMark}
use Rattle.state.specs.declared.State.{State}
use Rattle.model.specs.Compile.{empty_of}
use Rattle.model.specs.Process.{no_block}

unfoldable pub fresh_of : Config → ℕ → ℕ → List SourceMark → State
fresh_of c n d mark =
    record {
      config = c;
      sources = n;
      dests = d;
      mark = mark;
      voices = no_voices;
      marks = no_marks;
      velocity = no_notes;
      key = no_notes;
      gains = record { amount = replicate slots zero32; output = replicate slots one32 };
      alternate = false;
      draw = 0x9e37_79b9_7f4a_7c15;
      limit = max c.voices 1;
      phase = 0;
      block = no_block;
      primed = false;
      program = empty_of c;
    }
