-- What the answers of an engine's calls say, in the model's words. Definitions only.
use Rattle.std.specs.Prelude.{Bool, false, Result, Ok, Err}
use Rattle.refusal.specs.Refusal.{number_of}
use Rattle.refusal.specs.declared.Refusal.{Refusal}
use Rattle.state.specs.Answers.{Bound}
use Rattle.state.specs.Answers.{Flag}
use Rattle.state.specs.declared.Program.{Program}
use Rattle.state.specs.declared.Signals.{Signals}
use Rattle.state.specs.declared.State.{State}
use Rattle.engine.specs.declared.Engine.{Engine}
use Rattle.engine.specs.declared.Swapped.{Swapped}

-- the state after a call: a refused one hands no engine on, and the caller's own is as it came
abbrev pub state_after : State → Result Engine Refusal → State
state_after before (Ok e) = e.state
state_after before (Err r) = before

abbrev pub state_swapped : State → Result Swapped Refusal → State
state_swapped before (Ok s) = s.engine.state
state_swapped before (Err r) = before

-- the program outside after a swap: the one that was installed, or the one handed in
abbrev pub program_left : Program → Result Swapped Refusal → Program
program_left before (Ok s) = s.program
program_left before (Err r) = before

-- the signals after a call; as they came where it is refused
abbrev pub bound_said : Signals → Result Signals Refusal → Bound
bound_said before (Ok s) = record { code = 0; signals = s }
bound_said before (Err r) = record { code = number_of r; signals = before }

-- whether it is so; false where the call is refused
abbrev pub flag_said : Result Bool Refusal → Flag
flag_said (Ok b) = record { code = 0; on = b }
flag_said (Err r) = record { code = number_of r; on = false }
