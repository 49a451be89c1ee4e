-- The commands of the session language, in the order of their words (Texts, commands). Definitions only.
use Rattle.std.specs.Prelude.{List, [], ◌∷◌, ℕ, get_or}
use Rattle.trace_grammar.specs.declared.Command.{Command}
use Rattle.trace_grammar.specs.declared.Command.TheVariants.{Registry, Editing, Making, Lending, Setting}
use Rattle.trace_grammar.specs.declared.Command.TheVariants.{Process, Reading, State, Memory, Standard}
use Rattle.trace_grammar.specs.declared.Registry.TheVariants.{Config, Source, Dest, Newreg, Find}
use Rattle.trace_grammar.specs.declared.Editing.TheVariants.{Table, Slot, Note, Clear, MatrixPut}
use Rattle.trace_grammar.specs.declared.Making.TheVariants.{Compile, Swap, Engine}
use Rattle.trace_grammar.specs.declared.Lending.TheVariants.{MemoryLen, Print, Canon, Bind, Unbind, SignalPart}
use Rattle.trace_grammar.specs.declared.Setting.TheVariants.{SetHeld, SetVoiceHeld, SetBase, SetAmount}
use Rattle.trace_grammar.specs.declared.Setting.TheVariants.{SetOutput, SetVoiceLimit, NoteOn, NoteOff}
use Rattle.trace_grammar.specs.declared.Setting.TheVariants.{VoiceEnded, SetRng}
use Rattle.trace_grammar.specs.declared.Reading.TheVariants.{Out, Latest, LatestAll, Ramp, IsActive, Rate}

unfoldable pub command_list : List Command
command_list =
    Registry Config ∷
    Registry Source ∷
    Registry Dest ∷
    Registry Newreg ∷
    Registry Find ∷
    Editing Table ∷
    Editing Slot ∷
    Editing Note ∷
    Editing Clear ∷
    Editing MatrixPut ∷
    Making Compile ∷
    Making Swap ∷
    Making Engine ∷
    Lending MemoryLen ∷
    Lending Print ∷
    Lending Canon ∷
    Lending Bind ∷
    Lending Unbind ∷
    Lending SignalPart ∷
    Setting SetHeld ∷
    Setting SetVoiceHeld ∷
    Setting SetBase ∷
    Setting SetAmount ∷
    Setting SetOutput ∷
    Setting SetVoiceLimit ∷
    Setting NoteOn ∷
    Setting NoteOff ∷
    Setting VoiceEnded ∷
    Setting SetRng ∷
    Process ∷
    Reading Out ∷
    Reading Latest ∷
    Reading LatestAll ∷
    Reading Ramp ∷
    Reading IsActive ∷
    Reading Rate ∷
    State ∷
    Memory ∷
    Standard ∷
    []

-- the command of a row
abbrev pub command_at : ℕ → Command
command_at i = get_or command_list i Standard
