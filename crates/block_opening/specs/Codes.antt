-- The judgement of a block by numbers: the counts of a state and the lengths of what is lent (model's Process.processRows). Definitions only.
use Rattle.std.specs.Prelude.{Bool, cond, ◌||◌, List, [], ◌∷◌, ℕ, ◌-◌, ◌*◌, min, ltb, length, Float}
use Rattle.config.specs.Sizes.{slots, most_sources, most_destinations, most_voices, most_frames, most_signal_stride, lane_stride}
use Rattle.refusal.specs.Judge.{◌when◌, judged}
use Rattle.state.specs.declared.SignalPart.{SignalPart}
use Rattle.state.specs.declared.State.{State}
use Rattle.slots_tables.specs.Tables.{tables_need}
use Rattle.model.specs.Need.{values_need, audio_need}
use Rattle.model.specs.World.{World}
use Rattle.model.specs.Process.{any_stride, any_outside}
use Rattle.block_opening.specs.declared.Counts.{Counts}
use Rattle.block_opening.specs.declared.Lengths.{Lengths}

-- the numbers of a state by which memories are measured, as they stand there
abbrev pub counts_of : State → Counts
counts_of st =
    record {
      voices = st.config.voices;
      frames = st.config.max_frames;
      sources = st.sources;
      dests = st.dests;
      plans = st.program.plans;
      routes = st.program.routes;
      tabled = st.program.tabled;
    }

-- the lengths of a world's memories, and of the samples
abbrev pub lengths_of : World → List Float → Lengths
lengths_of w samples =
    record {
      held = length w.held;
      globals = length w.globals;
      bases = length w.bases;
      values = length w.values;
      audio = length w.audio;
      tables = length w.tables;
      samples = length samples;
    }

abbrev pub over_stride : SignalPart → Bool
over_stride p = ltb most_signal_stride p.stride

abbrev pub outside : ℕ → SignalPart → Bool
outside n p = ltb n p.at || ltb (n - p.at) p.len

abbrev pub held_need : ℕ → ℕ → ℕ
held_need voices sources = lane_stride (min voices most_voices) * min sources most_sources

unfoldable pub engine_short_by : Counts → Lengths → Bool
engine_short_by n l =
    ltb l.held (held_need n.voices n.sources)
    || (ltb l.globals (min n.sources most_sources) || ltb l.bases (min n.dests most_destinations))

abbrev pub values_by : Counts → ℕ
values_by n = values_need (min n.voices most_voices) (min n.frames most_frames) (min n.plans slots) (min n.routes slots)

abbrev pub audio_by : Counts → ℕ
audio_by n = audio_need (min n.voices most_voices) (min n.frames most_frames) (min n.plans slots)

unfoldable pub program_short_by : Counts → Lengths → Bool
program_short_by n l =
    ltb l.values (values_by n) || (ltb l.audio (audio_by n) || ltb l.tables (cond n.tabled tables_need 0))

unfoldable pub code_by : Counts → Lengths → List SignalPart → ℕ → ℕ
unfolding engine_short_by program_short_by judged
code_by n l parts end =
    judged
    (1 when ltb (min n.frames most_frames) end
    ∷ 13 when any_stride parts
    ∷ 14 when (engine_short_by n l || (program_short_by n l || any_outside l.samples parts))
    ∷ [])
