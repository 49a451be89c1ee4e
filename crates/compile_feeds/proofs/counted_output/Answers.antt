-- `compile_feeds::counted_output` meets its contract.
use borrow.Author.Tests.{lt-ltb, le-ltb}
use Rattle.compile_feeds.proofs.counted_output.Goals as goal

pub returns-then-n-lt-SLOTS : goal.returns-then-n-lt-SLOTS
returns-then-n-lt-SLOTS c = rw (lt-ltb _ _ c.if-n-lt-SLOTS.true)

pub returns : goal.returns
returns c = rw (le-ltb _ _ c.if-n-lt-SLOTS.false)
