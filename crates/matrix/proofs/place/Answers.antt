-- `matrix::place` meets its contract.
use borrow.Author.Tests.{lt-ltb, le-ltb}
use Rattle.config.specs.Sizes.{slots}
use Rattle.slots.specs.Matrix.{with_slots, with_slot}
use Rattle.matrix.specs.Edits.{placed}
use Rattle.matrix.proofs.place.Goals as goal

pub returns-then-slot-ge-SLOTS : goal.returns-then-slot-ge-SLOTS
unfolding placed
returns-then-slot-ge-SLOTS c =
    rw (← c.first_empty-slot.ensures) (simp (le-ltb c.first_empty-slot.result slots c.if-slot-ge-SLOTS.true))

pub returns : goal.returns
unfolding placed with_slot with_slots
returns c =
    rw (← c.first_empty-slot.ensures) (simp (lt-ltb c.first_empty-slot.result slots c.if-slot-ge-SLOTS.false))
