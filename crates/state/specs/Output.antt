-- The shape of an output (document 01, Chunk and value): why it is refused, or no rows, rows of that width at audio
-- rate, or at control rate with so many chunks. Definitions only.
use Rattle.std.specs.Prelude.{ℕ}

pub data Output : Type 0 where
  Refused : ℕ → Output
  Unmodulated : Output
  Audio : ℕ → Output
  Control : ℕ → ℕ → Output
