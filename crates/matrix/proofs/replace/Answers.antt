-- `matrix::replace` meets its contract.
use borrow.Author.Tests.{le-leb, lt-leb}
use Rattle.config.specs.Sizes.{slots}
use Rattle.refusal.specs.Judge.{judged}
use Rattle.slots.specs.Matrix.{with_slots, with_slot}
use Rattle.matrix.specs.Edits.{answered}
use Rattle.matrix.proofs.replace.Goals as goal

pub returns-then-n-ge-SLOTS : goal.returns-then-n-ge-SLOTS
unfolding answered judged
returns-then-n-ge-SLOTS c = simp (le-leb slots c.args.n c.if-n-ge-SLOTS.true)

pub returns : goal.returns
unfolding answered judged with_slot with_slots
returns c = simp (lt-leb slots c.args.n c.if-n-ge-SLOTS.false)
