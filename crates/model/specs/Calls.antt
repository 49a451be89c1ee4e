-- Lists of calls on one engine, with the programs that it may be given (document 01, The model). Definitions only.
use Rattle.std.specs.Prelude.{cond, List, [], ◌∷◌, ℕ, ◌*◌, eqb, ltb, length, get_or, set, replicate, Float}
use Rattle.number.specs.Number.{zero32}
use Rattle.config.specs.declared.Config.{Config}
use Rattle.state.specs.declared.Sources.{Sources}
use Rattle.state.specs.declared.Destinations.{Destinations}
use Rattle.state.specs.declared.Program.{Program}
use Rattle.state.specs.declared.Signals.{Signals}
use Rattle.state.specs.declared.Wiring.{Wiring}
use Rattle.model.specs.Plans.{compiled}
use Rattle.model.specs.Compile.{empty_of, program_values, program_audio}
use Rattle.model.specs.Counts.{stride_of, engine_sources, engine_dests}
use Rattle.model.specs.World.{World}
use Rattle.refusal.specs.Judge.{Row}
use Rattle.model.specs.Process.{process, process_rows}
use Rattle.model.specs.Settings.{Done, fresh_state, held_rows, voice_held_rows, base_rows, gain_rows, swap_rows}
use Rattle.model.specs.Settings.{set_held, set_voice_held, set_base, set_amount, set_output, set_voice_limit, set_draw}
use Rattle.model.specs.Settings.{swap_program}
use Rattle.model.specs.NoteCalls.{Note, note_on_rows, note_off_rows, voice_ended_rows, note_on, note_off, voice_ended}

-- ---- the calls: a block, which may tick, or another call

-- a call that renders nothing
pub data Other : Type 0 where
  -- a source, and its held number
  set-held : ℕ → Float → Other
  -- a source, a voice, and the held number there
  set-voice-held : ℕ → ℕ → Float → Other
  -- a destination, and its base
  set-base : ℕ → Float → Other
  -- a slot, and its amount
  set-amount : ℕ → Float → Other
  -- a slot, and its output
  set-output : ℕ → Float → Other
  -- the voice limit
  set-limit : ℕ → Other
  -- the state of the draws
  set-draw : ℕ → Other
  -- a voice, and its note
  start-note : ℕ → Note → Other
  -- a voice, and its release velocity
  release-note : ℕ → Float → Other
  -- a voice
  end-voice : ℕ → Other
  -- the number of a program
  install : ℕ → Other
  -- the memories of a program arrive otherwise: its number, values, audio rows, tables
  lend-program : ℕ → List Float → List Float → List Float → Other
  -- held numbers, global numbers and bases arrive otherwise
  lend-engine : List Float → List Float → List Float → Other
  -- a call that only reads
  look : Other

pub data Call : Type 0 where
  -- samples, signals and a range
  block : List Float → Signals → ℕ → ℕ → Call
  other : Other → Call

-- the other calls as they stand in a list
abbrev pub held-set : ℕ → Float → Call
held-set i x = other (set-held i x)

abbrev pub voice-held-set : ℕ → ℕ → Float → Call
voice-held-set i v x = other (set-voice-held i v x)

abbrev pub base-set : ℕ → Float → Call
base-set d x = other (set-base d x)

abbrev pub amount-set : ℕ → Float → Call
amount-set n x = other (set-amount n x)

abbrev pub output-set : ℕ → Float → Call
output-set n x = other (set-output n x)

abbrev pub limit-set : ℕ → Call
limit-set n = other (set-limit n)

abbrev pub draw-set : ℕ → Call
draw-set x = other (set-draw x)

abbrev pub note-on : ℕ → Note → Call
note-on v n = other (start-note v n)

abbrev pub note-off : ℕ → Float → Call
note-off v x = other (release-note v x)

abbrev pub voice-ended : ℕ → Call
voice-ended v = other (end-voice v)

abbrev pub swap : ℕ → Call
swap k = other (install k)

abbrev pub program-memory : ℕ → List Float → List Float → List Float → Call
program-memory k values audio tables = other (lend-program k values audio tables)

abbrev pub engine-memory : List Float → List Float → List Float → Call
engine-memory held globals bases = other (lend-engine held globals bases)

abbrev pub read : Call
read = other look

-- ---- what they are made on

-- a program that is not installed, with its memories
pub record Kept : Type 0 where
  -- the program, as it was compiled or as it last came back
  pub program : Program
  -- its control values, ramps, slews and random inputs
  pub values : List Float
  -- its audio rows
  pub audio : List Float
  -- the tables of its curves
  pub tables : List Float

-- the engine with the programs that it may be given
pub record Runner : Type 0 where
  -- the engine, its memories, and those of the installed program
  pub world : World
  -- the programs by their numbers; what stands at the installed number is not read
  pub kept : List Kept
  -- the number of the installed program
  pub installed : ℕ

-- newly compiled: 0 up to its need, with its tables
abbrev pub kept_of : Wiring → List Float → Kept
kept_of w tables =
    record {
      program = compiled w;
      values = replicate (program_values (compiled w)) zero32;
      audio = replicate (program_audio (compiled w)) zero32;
      tables = tables;
    }

abbrev pub no_kept : Config → Kept
no_kept c = record { program = empty_of c; values = []; audio = []; tables = [] }

-- a fresh engine: its own empty program is number 0, and the given ones are 1, 2, ..
abbrev pub start_of : Sources → Destinations → Config → List Kept → Runner
start_of ss ds c ks =
    let st = fresh_state ss ds c in
    record {
      world =
          record {
            state = st;
            held = replicate (stride_of st * engine_sources st) zero32;
            globals = replicate (engine_sources st) zero32;
            bases = replicate (engine_dests st) zero32;
            values = [];
            audio = [];
            tables = [];
          };
      kept = no_kept c ∷ ks;
      installed = 0;
    }

abbrev pub on_world : Runner → World → Runner
on_world r w = record { world = w; kept = r.kept; installed = r.installed }

-- the programs, with what is installed back under its number
abbrev pub returned : Runner → List Kept
returned r =
    set r.kept r.installed
    (record {
      program = r.world.state.program;
      values = r.world.values;
      audio = r.world.audio;
      tables = r.world.tables;
    })

abbrev pub kept_at : Runner → ℕ → Kept
kept_at r k = get_or (returned r) k (no_kept r.world.state.config)

abbrev pub program_at : Runner → ℕ → Program
program_at r k = (kept_at r k).program

-- what is installed goes back under its number, and number k comes in with its memories
abbrev pub exchanged : Runner → ℕ → Kept → Runner
exchanged r k p =
    record {
      world =
          record {
            state = (swap_program r.world.state p.program).state;
            held = r.world.held;
            globals = r.world.globals;
            bases = r.world.bases;
            values = p.values;
            audio = p.audio;
            tables = p.tables;
          };
      kept = returned r;
      installed = k;
    }

-- the number that is installed already is installed again, as the call does: the program with its own memories,
-- unprimed, at its compiled amounts and outputs, active voices fresh and renoted. A number that names no program
-- changes nothing
abbrev pub swapped : Runner → ℕ → Runner
swapped r k =
    cond (eqb (swap_program r.world.state (program_at r k)).code 0)
    (cond (ltb k (length r.kept)) (exchanged r k (kept_at r k)) r)
    r

-- ---- a memory that arrives otherwise

abbrev pub lent_values : World → List Float → List Float → List Float → World
lent_values w values audio tables =
    record {
      state = w.state;
      held = w.held;
      globals = w.globals;
      bases = w.bases;
      values = values;
      audio = audio;
      tables = tables;
    }

abbrev pub program_arrives : Runner → ℕ → List Float → List Float → List Float → Runner
program_arrives r k values audio tables =
    cond (eqb k r.installed) (on_world r (lent_values r.world values audio tables))
    (record {
      world = r.world;
      kept = set (returned r) k (record { program = program_at r k; values = values; audio = audio; tables = tables });
      installed = r.installed;
    })

abbrev pub engine_arrives : World → List Float → List Float → List Float → World
engine_arrives w held globals bases =
    record {
      state = w.state;
      held = held;
      globals = globals;
      bases = bases;
      values = w.values;
      audio = w.audio;
      tables = w.tables;
    }

-- ---- what a call does. A later call is a constructor of `Other` and a clause of `effect_of`

pub record Effect : Type 0 where
  -- its rows in the order in which they are judged
  pub rows : List Row
  -- the number that it hands back
  pub code : ℕ
  -- engine, programs and memories after it
  pub left : Runner

-- of a call that leaves the programs
abbrev pub on_engine : Runner → List Row → Done → Effect
on_engine r rows d = record { rows = rows; code = d.code; left = on_world r d.world }

-- of what is refused in no case
abbrev pub always : Runner → Effect
always q = record { rows = []; code = 0; left = q }

abbrev pub effect_of : Other → Runner → Effect
effect_of (set-held i x) r = on_engine r (held_rows r.world i x) (set_held r.world i x)
effect_of (set-voice-held i v x) r = on_engine r (voice_held_rows r.world i v x) (set_voice_held r.world i v x)
effect_of (set-base d x) r = on_engine r (base_rows r.world d x) (set_base r.world d x)
effect_of (set-amount n x) r = on_engine r (gain_rows n x) (set_amount r.world n x)
effect_of (set-output n x) r = on_engine r (gain_rows n x) (set_output r.world n x)
effect_of (set-limit n) r = on_engine r [] (set_voice_limit r.world n)
effect_of (set-draw x) r = on_engine r [] (set_draw r.world x)
effect_of (start-note v n) r = on_engine r (note_on_rows r.world v n) (note_on r.world v n)
effect_of (release-note v x) r = on_engine r (note_off_rows r.world v x) (note_off r.world v x)
effect_of (end-voice v) r = on_engine r (voice_ended_rows r.world v) (voice_ended r.world v)
effect_of (install k) r =
    record {
      rows = swap_rows r.world.state (program_at r k);
      code = (swap_program r.world.state (program_at r k)).code;
      left = swapped r k;
    }
effect_of (lend-program k values audio tables) r = always (program_arrives r k values audio tables)
effect_of (lend-engine held globals bases) r = always (on_world r (engine_arrives r.world held globals bases))
effect_of look r = always r

-- one call
abbrev pub called : Call → Runner → Runner
called (block samples signals start end) r = on_world r (process r.world samples signals start end).world
called (other o) r = (effect_of o r).left

-- the number that it hands back, and its rows
abbrev pub code_of : Call → Runner → ℕ
code_of (block samples signals start end) r = (process r.world samples signals start end).code
code_of (other o) r = (effect_of o r).code

abbrev pub call_rows : Call → Runner → List Row
call_rows (block samples signals start end) r = process_rows r.world samples signals end
call_rows (other o) r = (effect_of o r).rows

-- a list of calls, one after the other
unfoldable pub run : List Call → Runner → Runner
unfolding set_held set_voice_held set_base set_amount set_output set_voice_limit set_draw note_on note_off voice_ended
    swap_program process
run [] r = r
run (c ∷ cs) r = run cs (called c r)
