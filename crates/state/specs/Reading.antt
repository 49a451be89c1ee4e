-- What a call that reads a value says: why it is refused, that there is none, or the value. Definitions only.
use Rattle.std.specs.Prelude.{ℕ, Float}

pub data Reading : Type 0 where
  Refused : ℕ → Reading
  Nothing : Reading
  Value : Float → Reading
