-- An engine with the memories lent to its calls, and what note values and the load write into them (engine.rs 580-583,
-- 723-731). Definitions only.
use Rattle.std.specs.Prelude.{Bool, true, false, cond, List, ℕ, zero, suc, ◌+◌, ◌*◌, get_or, set, Float}
use Rattle.state.specs.declared.Kind.{Kind}
use Rattle.state.specs.declared.Kind.TheVariants as K
use Rattle.state.specs.declared.Scope.TheVariants as S
use Rattle.state.specs.declared.SourceMark.{SourceMark}
use Rattle.state.specs.declared.State.{State}
use Rattle.model.specs.Counts.{stride_of, engine_sources}

-- the engine, its own memories, and those of the installed program
pub record World : Type 0 where
  -- the engine's state, the installed program in it
  pub state : State
  -- held numbers of sources, a row of lanes for each
  pub held : List Float
  -- held numbers of global sources, one for each
  pub globals : List Float
  -- bases as set, one for each destination
  pub bases : List Float
  -- the program's control values, ramps, slews and random inputs
  pub values : List Float
  -- its audio rows
  pub audio : List Float
  -- the tables of its curves
  pub tables : List Float

-- by its parts
abbrev pub world_of : State → List Float → List Float → List Float → List Float → List Float → List Float → World
world_of st held globals bases values audio tables =
    record {
      state = st;
      held = held;
      globals = globals;
      bases = bases;
      values = values;
      audio = audio;
      tables = tables;
    }

abbrev pub no_mark : SourceMark
no_mark = record { kind = K.Signal; scope = S.Voice }

abbrev pub mark_at : State → ℕ → SourceMark
mark_at st i = get_or st.mark i no_mark

-- the held number of source i in a lane
abbrev pub held_place : State → ℕ → ℕ → ℕ
held_place st i lane = i * stride_of st + lane

-- of the engine's first n sources, those whose kind passes take x in the lane
unfoldable pub held_by : State → (Kind → Bool) → ℕ → Float → ℕ → List Float → List Float
held_by st p lane x zero m = m
held_by st p lane x (suc n) m =
    let before = held_by st p lane x n m in
    cond (p (mark_at st n).kind) (set before (held_place st n lane) x) before

-- every source of a kind
abbrev pub held_of : State → (Kind → Bool) → ℕ → Float → List Float → List Float
held_of st p lane x m = held_by st p lane x (engine_sources st) m

abbrev pub is_velocity : Kind → Bool
is_velocity K.Signal = false
is_velocity K.Audio = false
is_velocity K.Held = false
is_velocity K.Velocity = true
is_velocity K.Key = false
is_velocity K.ReleaseVelocity = false
is_velocity K.Random = false
is_velocity (K.Alternate i) = false
is_velocity K.RandomPerRoute = false
is_velocity K.VoiceLoad = false
is_velocity K.Constant = false

abbrev pub is_key : Kind → Bool
is_key K.Signal = false
is_key K.Audio = false
is_key K.Held = false
is_key K.Velocity = false
is_key K.Key = true
is_key K.ReleaseVelocity = false
is_key K.Random = false
is_key (K.Alternate i) = false
is_key K.RandomPerRoute = false
is_key K.VoiceLoad = false
is_key K.Constant = false

abbrev pub is_release : Kind → Bool
is_release K.Signal = false
is_release K.Audio = false
is_release K.Held = false
is_release K.Velocity = false
is_release K.Key = false
is_release K.ReleaseVelocity = true
is_release K.Random = false
is_release (K.Alternate i) = false
is_release K.RandomPerRoute = false
is_release K.VoiceLoad = false
is_release K.Constant = false

abbrev pub is_random : Kind → Bool
is_random K.Signal = false
is_random K.Audio = false
is_random K.Held = false
is_random K.Velocity = false
is_random K.Key = false
is_random K.ReleaseVelocity = false
is_random K.Random = true
is_random (K.Alternate i) = false
is_random K.RandomPerRoute = false
is_random K.VoiceLoad = false
is_random K.Constant = false

abbrev pub is_load : Kind → Bool
is_load K.Signal = false
is_load K.Audio = false
is_load K.Held = false
is_load K.Velocity = false
is_load K.Key = false
is_load K.ReleaseVelocity = false
is_load K.Random = false
is_load (K.Alternate i) = false
is_load K.RandomPerRoute = false
is_load K.VoiceLoad = true
is_load K.Constant = false

-- the global number of every VoiceLoad source among the first n
unfoldable pub load_by : State → Float → ℕ → List Float → List Float
load_by st x zero m = m
load_by st x (suc n) m = let before = load_by st x n m in cond (is_load (mark_at st n).kind) (set before n x) before
