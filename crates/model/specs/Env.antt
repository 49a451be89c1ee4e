-- What a value in one lane is worked out from: everything that is read and not written while one destination is worked
-- out, at one frame (engine.rs 781-794). No program and no plan stands in it. Definitions only.
use Rattle.std.specs.Prelude.{Bool, true, false, cond, List, ℕ, ◌+◌, ◌*◌, max, ltb, get_or, Float}
use Rattle.std.specs.Float.{nan}
use Rattle.number.specs.Number.{zero32, times}
use Rattle.voice.specs.declared.Voices.{Voices}
use Rattle.state.specs.declared.Base.{Base}
use Rattle.state.specs.declared.Base.TheVariants as B
use Rattle.state.specs.declared.Gains.{Gains}
use Rattle.state.specs.declared.Route.{Route}
use Rattle.state.specs.declared.SignalPart.{SignalPart}
use Rattle.state.specs.declared.Signals.{Signals}
use Rattle.model.specs.Counts.{at}

pub record Env : Type 0 where
  -- the lane stride
  pub stride : ℕ
  -- which voices are active, and the newest
  pub voices : Voices
  -- the voices that started since the last block
  pub fresh : List Bool
  -- amounts and outputs as set
  pub gains : Gains
  -- the program has ticked since it was installed
  pub primed : Bool
  -- held numbers of sources, a row of lanes for each
  pub held : List Float
  -- held numbers of global sources, one for each
  pub globals : List Float
  -- bases as set, one for each destination
  pub bases : List Float
  -- the tables of the program's curves
  pub tables : List Float
  -- the numbers of all signals
  pub samples : List Float
  -- where each source's signal lies in them
  pub signals : Signals
  -- the frame at which signals are read
  pub frame : ℕ
  -- the frames that a signal must have for whole rows of it to be read
  pub up_to : ℕ
  -- the samples by which slews move
  pub steps : Float
  -- in the first chunk of a block with fresh voices: slews of fresh lanes end at their input
  pub snap : Bool

-- control values that fed inputs read: of plan or destination e, in a lane
abbrev pub Rows : Type 0
Rows = ℕ → ℕ → Float

-- the own numbers of the routes of one destination: of its route j the row q, in a lane. Rows 0 and 1 are the slews of
-- source and aux, 2 and 3 the random inputs of source and aux
abbrev pub Own : Type 0
Own = ℕ → ℕ → ℕ → Float

-- a lane of a row; there is none beyond the stride
abbrev pub lane_in : Env → (ℕ → Float) → ℕ → Float
lane_in t row lane = cond (ltb lane t.stride) (row lane) nan

abbrev pub is_fresh : Env → ℕ → Bool
is_fresh t lane = get_or t.fresh lane false

abbrev pub live_amount_of : Env → ℕ → Float
live_amount_of t slot = at t.gains.amount slot

abbrev pub live_output_of : Env → ℕ → Float
live_output_of t slot = at t.gains.output slot

-- the product of a slot's amount and output as set (engine.rs 588-592)
abbrev pub gain_of : Env → Route → Float
gain_of t r = times (live_amount_of t r.slot) (live_output_of t r.slot)

-- engine.rs 771-778
abbrev pub base_of : Env → ℕ → Base → Float
base_of t dest B.Set = at t.bases dest
base_of t dest (B.Held src) = at t.globals src
base_of t dest (B.Amount slot) = live_amount_of t slot
base_of t dest (B.Output slot) = live_output_of t slot

-- ---- signals (engine.rs 39-66, 1453-1470; docs/CALLS.md, Signals)

abbrev pub no_part : SignalPart
no_part = record { at = 0; len = 0; stride = 0 }

unfoldable pub part_of : Signals → ℕ → SignalPart
part_of s src = get_or s.part src no_part

-- a stride of 0 reads as 1
abbrev pub part_stride : SignalPart → ℕ
part_stride p = max 1 p.stride

-- number n of the part, where it has one; else 0
abbrev pub in_part : List Float → SignalPart → ℕ → Float
in_part samples p n = cond (ltb n p.len) (at samples (p.at + n)) zero32

-- a lane that the signal has not got is 0, and never the next frame's first
unfoldable pub sample_in : List Float → SignalPart → ℕ → Bool → ℕ → Float
sample_in samples p frame true lane =
    cond (ltb lane (part_stride p)) (in_part samples p (frame * part_stride p + lane)) zero32
sample_in samples p frame false lane = in_part samples p (frame * part_stride p)
