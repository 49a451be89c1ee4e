-- Answers of calls on an engine: the number of a refusal, 0 where there is none, and what is brought. Definitions only.
use Rattle.std.specs.Prelude.{ℕ, Bool}
use Rattle.state.specs.declared.Signals.{Signals}

pub record Flag : Type 0 where
  pub code : ℕ
  pub on : Bool

pub record Bound : Type 0 where
  pub code : ℕ
  pub signals : Signals
