-- FROM A CALL IN CODE TO A STEP OF THE LIST. A step is answered where the call's own promise holds of what was lent to
-- it, and whatever was not lent to be written is as it was: memories, the other programs and the installed number. A
-- session is steps one after another, each answered; it begins with what `new` and `compile` promise, accepted.
-- Definitions only; proved in proofs/Answered.antt and proofs/Sessions.antt.
use Rattle.std.specs.Prelude.{◌≡◌, ◌≢◌, List, [], ◌∷◌, ℕ, ◌<◌, length, set, Float}
use Rattle.config.specs.declared.Config.{Config}
use Rattle.state.specs.declared.Destinations.{Destinations}
use Rattle.state.specs.declared.Program.{Program}
use Rattle.state.specs.declared.Sources.{Sources}
use Rattle.model.specs.Compile.{Memories}
use Rattle.model.specs.Calls.{Other, set-held, set-voice-held, set-base, set-amount, set-output, set-limit}
use Rattle.model.specs.Calls.{set-draw, start-note, release-note, end-voice, install, lend-program, lend-engine}
use Rattle.model.specs.Calls.{look, Call, block, other, Kept, Runner, kept_at, program_at, effect_of}
use Rattle.model.specs.Promises.{NewAnswers, NewLeaves, CompileAnswers, CompileLeaves, HeldSets, VoiceHeldSets}
use Rattle.model.specs.Promises.{BaseSets, AmountSets, OutputSets, LimitSets, DrawSets, SwapAnswers, NoteStarts}
use Rattle.model.specs.Promises.{NoteStops, VoiceEnds, BlockAnswers, BlockLeaves}
use Rattle.model.specs.Claim.{Compiled}

-- ---- what stays, from r to q

abbrev pub HeldStays : Runner → Runner → Type 0
HeldStays r q = q.world.held ≡ r.world.held

abbrev pub GlobalsStay : Runner → Runner → Type 0
GlobalsStay r q = q.world.globals ≡ r.world.globals

abbrev pub BasesStay : Runner → Runner → Type 0
BasesStay r q = q.world.bases ≡ r.world.bases

abbrev pub TablesStay : Runner → Runner → Type 0
TablesStay r q = q.world.tables ≡ r.world.tables

-- values and audio rows of the installed program
abbrev pub RowsStay : Runner → Runner → Type 0
RowsStay r q = (q.world.values ≡ r.world.values) × (q.world.audio ≡ r.world.audio)

-- the other programs, and the installed number
abbrev pub ProgramsStay : Runner → Runner → Type 0
ProgramsStay r q = (q.kept ≡ r.kept) × (q.installed ≡ r.installed)

-- everything beside the engine's state
abbrev pub Untouched : Runner → Runner → Type 0
Untouched r q =
    HeldStays r q × (GlobalsStay r q × (BasesStay r q × (RowsStay r q × (TablesStay r q × ProgramsStay r q))))

-- ---- a program is installed: what the caller does with what it handed in and what came back

-- accepted: what came back goes under the number that was installed, with its memories, and number k's come in
pub record Exchanges (k : ℕ) (back : Program) (r q : Runner) : Type 0 where
  -- under the number that was installed
  pub kept :
      q.kept
      ≡ set r.kept r.installed
      (record { program = back; values = r.world.values; audio = r.world.audio; tables = r.world.tables })
  -- the number
  pub installed : q.installed ≡ k
  -- memories of number k
  pub values : q.world.values ≡ (kept_at r k).values
  pub audio : q.world.audio ≡ (kept_at r k).audio
  pub tables : q.world.tables ≡ (kept_at r k).tables

-- the call is made with number k's program
pub record Installs (k : ℕ) (r : Runner) (n : ℕ) (q : Runner) : Type 0 where
  -- the number names a program
  pub there : k < length r.kept
  -- the program that came back
  pub back : Program
  -- what the call promises
  pub promise : SwapAnswers r.world.state (program_at r k) n q.world.state back
  -- the engine's own memories are not lent
  pub engine : HeldStays r q × (GlobalsStay r q × BasesStay r q)
  -- accepted
  pub accepted : n ≡ 0 → Exchanges k back r q
  -- refused: both programs are as they came
  pub refused : n ≢ 0 → RowsStay r q × (TablesStay r q × ProgramsStay r q)

-- ---- a step: n is the number handed back

-- the call's own promise, over what is lent to it; an arriving memory and a reader are no call that changes an engine
abbrev pub Promised : Other → Runner → ℕ → Runner → Type 0
Promised (set-held i x) r n q =
    HeldSets r.world.state r.world.held r.world.globals i x n
    q.world.state q.world.held q.world.globals
Promised (set-voice-held i v x) r n q =
    VoiceHeldSets r.world.state r.world.held i v x n q.world.state q.world.held
Promised (set-base d x) r n q =
    BaseSets r.world.state r.world.bases d x n q.world.state q.world.bases
Promised (set-amount i x) r n q = AmountSets r.world.state i x n q.world.state
Promised (set-output i x) r n q = OutputSets r.world.state i x n q.world.state
Promised (set-limit voices) r n q = LimitSets r.world.state voices n q.world.state
Promised (set-draw x) r n q = DrawSets r.world.state x q.world.state × (n ≡ 0)
Promised (start-note v note) r n q =
    NoteStarts r.world.state r.world.held r.world.tables v note n q.world.state q.world.held
Promised (release-note v x) r n q =
    NoteStops r.world.state r.world.held v x n q.world.state q.world.held
Promised (end-voice v) r n q = VoiceEnds r.world.state r.world.held v n q.world.state
Promised (install k) r n q = Installs k r n q
Promised (lend-program k values audio tables) r n q =
    (q ≡ (effect_of (lend-program k values audio tables) r).left) × (n ≡ 0)
Promised (lend-engine held globals bases) r n q =
    (q ≡ (effect_of (lend-engine held globals bases) r).left) × (n ≡ 0)
Promised look r n q = (q ≡ r) × (n ≡ 0)

-- what is not lent to be written stays
abbrev pub Spared : Other → Runner → Runner → Type 0
Spared (set-held i x) r q = BasesStay r q × (RowsStay r q × (TablesStay r q × ProgramsStay r q))
Spared (set-voice-held i v x) r q =
    GlobalsStay r q × (BasesStay r q × (RowsStay r q × (TablesStay r q × ProgramsStay r q)))
Spared (set-base d x) r q =
    HeldStays r q × (GlobalsStay r q × (RowsStay r q × (TablesStay r q × ProgramsStay r q)))
Spared (set-amount i x) r q = Untouched r q
Spared (set-output i x) r q = Untouched r q
Spared (set-limit voices) r q = Untouched r q
Spared (set-draw x) r q = Untouched r q
Spared (start-note v note) r q =
    GlobalsStay r q × (BasesStay r q × (RowsStay r q × (TablesStay r q × ProgramsStay r q)))
Spared (release-note v x) r q =
    GlobalsStay r q × (BasesStay r q × (RowsStay r q × (TablesStay r q × ProgramsStay r q)))
Spared (end-voice v) r q = Untouched r q
Spared (install k) r q = Unit {0}
Spared (lend-program k values audio tables) r q = Unit {0}
Spared (lend-engine held globals bases) r q = Unit {0}
Spared look r q = Unit {0}

-- ANSWERED, with the number n
abbrev pub AnsweredBy : Call → Runner → ℕ → Runner → Type 0
AnsweredBy (block samples signals start end) r n q =
    BlockAnswers r.world samples signals start end n q.world.state
    × (BlockLeaves r.world samples signals start end
    q.world.held q.world.globals q.world.values q.world.audio
    × (BasesStay r q × (TablesStay r q × ProgramsStay r q)))
AnsweredBy (other o) r n q = Promised o r n q × Spared o r q

-- A STEP IS ANSWERED
pub record Answered (c : Call) (r q : Runner) : Type 0 where
  -- the number that the call handed back
  pub code : ℕ
  -- its promise, and what stays
  pub answered : AnsweredBy c r code q

-- ---- steps one after another

pub data Session : List Call → Runner → Runner → Type 0 where
  done : {r : Runner} → Session [] r r
  step : {c : Call} {cs : List Call} {r x q : Runner} → Answered c r x → Session cs x q → Session (c ∷ cs) r q

-- ---- how it begins

-- a kept program that `compile` returned, accepted, with the memories that were lent to it
pub record KeptBy (p : Compiled) (k : Kept) : Type 0 where
  -- the memories as they were lent, of any length and with any numbers
  pub lent : Memories
  -- what the call promises of its answer: number 0, and the program
  pub answers : CompileAnswers p.wiring p.tables lent (record { code = 0; program = k.program })
  -- and of the memories
  pub lent_after :
      CompileLeaves p.wiring p.tables lent
      (record { values = k.values; audio = k.audio; tables = k.tables })

-- one after another
abbrev pub AllKept : List Compiled → List Kept → Type 0
AllKept [] [] = Unit {0}
AllKept [] (k ∷ ks) = ⊥
AllKept (p ∷ ps) [] = ⊥
AllKept (p ∷ ps) (k ∷ ks) = KeptBy p k × AllKept ps ks

-- an engine that `new` returned, accepted, with programs that `compile` returned: number 0 is the engine's own empty
-- program, and the others are 1, 2, ..
pub record Begun (ss : Sources) (ds : Destinations) (c : Config) (ps : List Compiled) (r : Runner) : Type 0 where
  -- the memories as they were lent, of any length and with any numbers
  pub held : List Float
  pub globals : List Float
  pub bases : List Float
  -- what the call promises of its answer: number 0, and the engine
  pub answers : NewAnswers ss ds c held globals bases 0 r.world.state
  -- and of the memories
  pub lent_after : NewLeaves ss ds c held globals bases r.world.held r.world.globals r.world.bases
  -- what stands at number 0, which is not read while it is installed
  pub first : Kept
  -- the programs
  pub rest : List Kept
  pub kept : r.kept ≡ first ∷ rest
  pub programs : AllKept ps rest
  -- number 0 is installed
  pub installed : r.installed ≡ 0
