-- `engine_reads::is_on` meets its contract.
use borrow.Author.Tests.{lt-ltb, le-ltb}
use Rattle.engine_reads.proofs.is_on.Goals as goal

pub returns-then-v-voices : goal.returns-then-v-voices
returns-then-v-voices c = rw (lt-ltb _ _ c.if-v-voices.true)

pub returns : goal.returns
returns c = rw (le-ltb _ _ c.if-v-voices.false)
