-- What a value in one lane is worked out from, as the code has it: a scene, and the lent numbers beside it. Definitions only.
use Rattle.std.specs.Prelude.{List, Float}
use Rattle.state.specs.declared.Signals.{Signals}
use Rattle.model.specs.Env.{Env}
use Rattle.lane_input.specs.declared.Scene.{Scene}

-- the scene with held numbers, globals, bases, tables, samples and signals
abbrev pub env_of : Scene → List Float → List Float → List Float → List Float → List Float → Signals → Env
env_of s held globals bases tables samples signals =
    record {
      stride = s.stride;
      voices = s.voices;
      fresh = s.fresh;
      gains = s.gains;
      primed = s.primed;
      held = held;
      globals = globals;
      bases = bases;
      tables = tables;
      samples = samples;
      signals = signals;
      frame = s.frame;
      up_to = s.up_to;
      steps = s.steps;
      snap = s.snap;
    }
