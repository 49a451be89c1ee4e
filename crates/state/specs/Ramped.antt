-- What `ramp` says: why it is refused, that there is no ramp, or how many numbers were written. Definitions only.
use Rattle.std.specs.Prelude.{ℕ}

pub data Ramped : Type 0 where
  Refused : ℕ → Ramped
  Nothing : Ramped
  Filled : ℕ → Ramped
