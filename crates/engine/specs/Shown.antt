-- What an engine shows of itself. Definitions only.
use Rattle.state.specs.declared.State.{State}

-- the whole state, as it is
abbrev pub engine_state : State → State
engine_state st = st
