-- What a block finds and what it leaves alone. Definitions only.
use Rattle.std.specs.Prelude.{◌≡◌, ℕ, ◌*◌, ◌≤◌}
use Rattle.state.specs.declared.State.{State}
use Rattle.model.specs.Counts.{stride_of, frame_count, engine_sources, plan_total}
use Rattle.model.specs.Process.{values_of}

-- the numbers that the audio rows of all plans take
abbrev pub audio_size : State → ℕ
audio_size st = stride_of st * (plan_total st.program * frame_count st)

-- held numbers, values and audio so long have room for what a state keeps there
pub record Room (st : State) (h v b : ℕ) : Type 0 where
  pub held : stride_of st * engine_sources st ≤ h
  pub values : values_of st ≤ v
  pub audio : audio_size st ≤ b

-- the next state has the counts and the program of st
pub record Keeps (st next : State) : Type 0 where
  pub config : next.config ≡ st.config
  pub sources : next.sources ≡ st.sources
  pub program : next.program ≡ st.program
