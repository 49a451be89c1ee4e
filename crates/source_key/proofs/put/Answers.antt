-- `source_key::put` meets its contract.
use borrow.Author.Tests.{lt-ltb, le-ltb}
use Rattle.source_key.specs.Text.{put_byte}
use Rattle.source_key.proofs.put.Goals as goal

pub returns-then-n-ge-KEY_BYTES : goal.returns-then-n-ge-KEY_BYTES
unfolding put_byte
returns-then-n-ge-KEY_BYTES c = simp (le-ltb _ _ c.if-n-ge-KEY_BYTES.true)

pub returns : goal.returns
unfolding put_byte
returns c = simp (lt-ltb _ _ c.if-n-ge-KEY_BYTES.false)
