-- The calls that make a program (document 01, Plan and route, and rows 6, 13 and 14; program.rs 216-238; docs/CALLS.md,
-- program). Definitions only.
use Rattle.std.specs.Prelude.{Bool, false, cond, not, ◌&&◌, ◌||◌, List, [], ◌∷◌, ◌++◌, ℕ, eqb, ltb, length, replicate}
use Rattle.std.specs.Prelude.{Float}
use Rattle.config.specs.Sizes.{slots}
use Rattle.config.specs.Configuration.{config_rows, config_code}
use Rattle.config.specs.declared.Config.{Config}
use Rattle.refusal.specs.Judge.{Row, ◌when◌, judged}
use Rattle.list.specs.Part.{on_part}
use Rattle.number.specs.Number.{zero32, one32}
use Rattle.state.specs.declared.NoteCurve.TheVariants as N
use Rattle.state.specs.declared.Matrix.{Matrix}
use Rattle.state.specs.declared.Program.{Program}
use Rattle.state.specs.declared.Wiring.{Wiring}
use Rattle.state_filled.specs.Filled.{no_plan, no_route, no_skip}
use Rattle.slots.specs.Slots.{all_finite}
use Rattle.slots_tables.specs.Tables.{tables_need, with_tables, names_table, named_allowed}
use Rattle.model.specs.Plans.{compiled}
use Rattle.model.specs.Need.{values_need, audio_need}

-- ---- what a program needs

abbrev pub program_values : Program → ℕ
program_values p = values_need p.config.voices p.config.max_frames p.plans p.routes

abbrev pub program_audio : Program → ℕ
program_audio p = audio_need p.config.voices p.config.max_frames p.plans

-- ---- the empty program: no plans, no routes, amounts 0, outputs 1, linear note curves (program.rs 218)

unfoldable pub empty_of : Config → Program
empty_of c =
    record {
      config = c;
      sources = 0;
      dests = 0;
      plans = 0;
      control = 0;
      routes = 0;
      plan = replicate slots no_plan;
      route = replicate slots no_route;
      gains = record { amount = replicate slots zero32; output = replicate slots one32 };
      velocity = N.Linear;
      key = N.Linear;
      glide = false;
      velocity_legato = false;
      tabled = false;
      skips = 0;
      skipped = replicate slots no_skip;
    }

-- the answer of a call that makes a program: the row by which it is refused, 0 where it is accepted, and the program
pub record Compiled : Type 0 where
  pub code : ℕ
  pub program : Program

-- a refusal holds the empty program for rate 1, 0 frames, 0 voices
abbrev pub answered_by : ℕ → Program → Compiled
answered_by code p =
    record {
      code = code;
      program = cond (eqb code 0) p
          (empty_of (record { sample_rate = one32; max_frames = 0; voices = 0 }));
    }

-- `empty`
unfoldable pub empty_program : Config → Compiled
unfolding config_code empty_of
empty_program c = answered_by (config_code c.sample_rate c.max_frames c.voices) (empty_of c)

-- ---- `compile`

-- the memories lent to be written
pub record Memories : Type 0 where
  -- for the program's control values, ramps, slews and random inputs
  pub values : List Float
  -- for its audio rows
  pub audio : List Float
  -- for the tables of its curves
  pub tables : List Float

-- row 6: amounts, outputs and seconds of every slot, and the numbers of named tables; a sample rate that is not finite
-- is the configuration's
abbrev pub numbers_allowed : Matrix → List Float → Bool
numbers_allowed m tables = all_finite m.slot && named_allowed m tables

-- row 14: tables where the matrix names one
abbrev pub tables_short : Matrix → List Float → List Float → Bool
tables_short m from to = names_table m && (ltb (length from) tables_need || ltb (length to) tables_need)

-- row 14: the program's own need
abbrev pub memory_short : Program → Memories → Bool
memory_short p l = ltb (length l.values) (program_values p) || ltb (length l.audio) (program_audio p)

abbrev pub compile_rows : Wiring → List Float → Memories → List Row
compile_rows w tables l =
    6 when not (numbers_allowed w.matrix tables)
    ∷ config_rows w.config.sample_rate w.config.max_frames w.config.voices
    ++ (14 when (tables_short w.matrix tables l.tables || memory_short (compiled w) l) ∷ [])

-- the first n numbers are 0
unfoldable pub zeroed : ℕ → List Float → List Float
zeroed n m = on_part m 0 n (replicate n zero32)

-- 0 up to the program's need; the matrix's tables, where it names one
abbrev pub made_in : Wiring → List Float → Memories → Memories
made_in w tables l =
    record {
      values = zeroed (program_values (compiled w)) l.values;
      audio = zeroed (program_audio (compiled w)) l.audio;
      tables = cond (names_table w.matrix) (with_tables l.tables tables) l.tables;
    }

pub record Made : Type 0 where
  -- what the call answers
  pub answer : Compiled
  -- the lent memories afterwards
  pub lent : Memories

-- a refused call leaves the memories as they came
abbrev pub made_by : ℕ → Wiring → List Float → Memories → Made
made_by code w tables l =
    record { answer = answered_by code (compiled w); lent = cond (eqb code 0) (made_in w tables l) l }

unfoldable pub compile : Wiring → List Float → Memories → Made
unfolding judged compiled empty_of zeroed
compile w tables l = made_by (judged (compile_rows w tables l)) w tables l
