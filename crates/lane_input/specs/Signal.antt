-- A signal as the code has it: a list of samples, with a stride. Definitions only.
use Rattle.std.specs.Prelude.{Bool, List, ℕ, Float, length}
use Rattle.state.specs.declared.SignalPart.{SignalPart}
use Rattle.model.specs.Env.{sample_in}

-- all of the samples, as a part of them
abbrev pub whole_of : List Float → ℕ → SignalPart
whole_of s stride = record { at = 0; len = length s; stride = stride }

-- the signal in a lane at a frame
abbrev pub signal_in : List Float → ℕ → ℕ → Bool → ℕ → Float
signal_in s stride frame voice lane = sample_in s (whole_of s stride) frame voice lane
