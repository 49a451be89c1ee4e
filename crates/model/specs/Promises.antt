-- What each call that makes or changes an engine, or makes a program, promises: what its `ensures` says, over what was
-- lent to it, what it handed back, and what stands in the lent memories afterwards. A memory that is not lent is [] in
-- it, since no promise may speak of it. Definitions only.
use Rattle.std.specs.Prelude.{◌≡◌, List, [], ℕ, Float}
use Rattle.config.specs.declared.Config.{Config}
use Rattle.state.specs.declared.Destinations.{Destinations}
use Rattle.state.specs.declared.Program.{Program}
use Rattle.state.specs.declared.Signals.{Signals}
use Rattle.state.specs.declared.Sources.{Sources}
use Rattle.state.specs.declared.State.{State}
use Rattle.state.specs.declared.Wiring.{Wiring}
use Rattle.model.specs.Compile.{Compiled, Memories, compile}
use Rattle.model.specs.World.{World, world_of}
use Rattle.model.specs.States.{with_draw}
use Rattle.model.specs.Process.{process}
use Rattle.model.specs.Settings.{refused_state, new_engine, set_held, set_voice_held, set_base, set_amount, set_output}
use Rattle.model.specs.Settings.{set_voice_limit, swap_program}
use Rattle.model.specs.NoteCalls.{Note, note_on, note_off, voice_ended}

-- ---- `Engine::new`: held numbers, global numbers and bases are lent

-- a number and an engine
abbrev pub NewAnswers : Sources → Destinations → Config → List Float → List Float → List Float → ℕ → State → Type 0
NewAnswers ss ds c held globals bases n st =
    (n ≡ (new_engine ss ds c (world_of refused_state held globals bases [] [] [])).code)
    × (st ≡ (new_engine ss ds c (world_of refused_state held globals bases [] [] [])).world.state)

-- and what the lent memories hold afterwards
abbrev pub NewLeaves : Sources → Destinations → Config → List Float → List Float → List Float
    → List Float → List Float → List Float → Type 0
NewLeaves ss ds c held globals bases held' globals' bases' =
    (held' ≡ (new_engine ss ds c (world_of refused_state held globals bases [] [] [])).world.held)
    × ((globals' ≡ (new_engine ss ds c (world_of refused_state held globals bases [] [] [])).world.globals)
    × (bases' ≡ (new_engine ss ds c (world_of refused_state held globals bases [] [] [])).world.bases))

-- ---- `program::compile`: the matrix's tables are lent to be read, the program's memories to be written

abbrev pub CompileAnswers : Wiring → List Float → Memories → Compiled → Type 0
CompileAnswers w tables l r = r ≡ (compile w tables l).answer

abbrev pub CompileLeaves : Wiring → List Float → Memories → Memories → Type 0
CompileLeaves w tables l m = m ≡ (compile w tables l).lent

-- ---- settings

-- `Engine::set_held`: held and global numbers are lent
abbrev pub HeldSets : State → List Float → List Float → ℕ → Float → ℕ → State → List Float → List Float → Type 0
HeldSets st held globals i x n st' held' globals' =
    (n ≡ (set_held (world_of st held globals [] [] [] []) i x).code)
    × ((st' ≡ (set_held (world_of st held globals [] [] [] []) i x).world.state)
    × ((held' ≡ (set_held (world_of st held globals [] [] [] []) i x).world.held)
    × (globals' ≡ (set_held (world_of st held globals [] [] [] []) i x).world.globals)))

-- `Engine::set_voice_held`: held numbers
abbrev pub VoiceHeldSets : State → List Float → ℕ → ℕ → Float → ℕ → State → List Float → Type 0
VoiceHeldSets st held i v x n st' held' =
    (n ≡ (set_voice_held (world_of st held [] [] [] [] []) i v x).code)
    × ((st' ≡ (set_voice_held (world_of st held [] [] [] [] []) i v x).world.state)
    × (held' ≡ (set_voice_held (world_of st held [] [] [] [] []) i v x).world.held))

-- `Engine::set_base`: bases
abbrev pub BaseSets : State → List Float → ℕ → Float → ℕ → State → List Float → Type 0
BaseSets st bases d x n st' bases' =
    (n ≡ (set_base (world_of st [] [] bases [] [] []) d x).code)
    × ((st' ≡ (set_base (world_of st [] [] bases [] [] []) d x).world.state)
    × (bases' ≡ (set_base (world_of st [] [] bases [] [] []) d x).world.bases))

-- `Engine::set_amount`, `set_output`, `set_voice_limit`: nothing
abbrev pub AmountSets : State → ℕ → Float → ℕ → State → Type 0
AmountSets st i x n st' =
    (n ≡ (set_amount (world_of st [] [] [] [] [] []) i x).code)
    × (st' ≡ (set_amount (world_of st [] [] [] [] [] []) i x).world.state)

abbrev pub OutputSets : State → ℕ → Float → ℕ → State → Type 0
OutputSets st i x n st' =
    (n ≡ (set_output (world_of st [] [] [] [] [] []) i x).code)
    × (st' ≡ (set_output (world_of st [] [] [] [] [] []) i x).world.state)

abbrev pub LimitSets : State → ℕ → ℕ → State → Type 0
LimitSets st voices n st' =
    (n ≡ (set_voice_limit (world_of st [] [] [] [] [] []) voices).code)
    × (st' ≡ (set_voice_limit (world_of st [] [] [] [] [] []) voices).world.state)

-- `Engine::with_draw`: nothing; it hands no number back
abbrev pub DrawSets : State → ℕ → State → Type 0
DrawSets st x st' = st' ≡ with_draw st x

-- `Engine::swap`: a program goes in, and one comes back
abbrev pub SwapAnswers : State → Program → ℕ → State → Program → Type 0
SwapAnswers st p n st' back =
    (n ≡ (swap_program st p).code) × ((st' ≡ (swap_program st p).state) × (back ≡ (swap_program st p).program))

-- ---- notes

-- `Engine::note_on`: held numbers, and the tables to be read
abbrev pub NoteStarts : State → List Float → List Float → ℕ → Note → ℕ → State → List Float → Type 0
NoteStarts st held tables v note n st' held' =
    (n ≡ (note_on (world_of st held [] [] [] [] tables) v note).code)
    × ((st' ≡ (note_on (world_of st held [] [] [] [] tables) v note).world.state)
    × (held' ≡ (note_on (world_of st held [] [] [] [] tables) v note).world.held))

-- `Engine::note_off`: held numbers
abbrev pub NoteStops : State → List Float → ℕ → Float → ℕ → State → List Float → Type 0
NoteStops st held v x n st' held' =
    (n ≡ (note_off (world_of st held [] [] [] [] []) v x).code)
    × ((st' ≡ (note_off (world_of st held [] [] [] [] []) v x).world.state)
    × (held' ≡ (note_off (world_of st held [] [] [] [] []) v x).world.held))

-- `Engine::voice_ended`: held numbers, to be read
abbrev pub VoiceEnds : State → List Float → ℕ → ℕ → State → Type 0
VoiceEnds st held v n st' =
    (n ≡ (voice_ended (world_of st held [] [] [] [] []) v).code)
    × (st' ≡ (voice_ended (world_of st held [] [] [] [] []) v).world.state)

-- ---- `Engine::process`: everything is lent, bases and tables to be read

abbrev pub BlockAnswers : World → List Float → Signals → ℕ → ℕ → ℕ → State → Type 0
BlockAnswers w samples signals start end n st =
    (n ≡ (process w samples signals start end).code) × (st ≡ (process w samples signals start end).world.state)

abbrev pub BlockLeaves : World → List Float → Signals → ℕ → ℕ
    → List Float → List Float → List Float → List Float → Type 0
BlockLeaves w samples signals start end held globals values audio =
    (held ≡ (process w samples signals start end).world.held)
    × ((globals ≡ (process w samples signals start end).world.globals)
    × ((values ≡ (process w samples signals start end).world.values)
    × (audio ≡ (process w samples signals start end).world.audio)))
