-- `program::memory_short` meets its contract.
use borrow.Author.Tests.{lt-ltb, le-ltb}
use Rattle.program.proofs.memory_short.Goals as goal

pub returns-then-values-values_need : goal.returns-then-values-values_need
returns-then-values-values_need c = simp (lt-ltb _ _ c.if-values-values_need.true, ← c.values_need.ensures)

pub returns : goal.returns
returns c = simp (← c.values_need.ensures, le-ltb _ _ c.if-values-values_need.false, c.audio_need.ensures)
