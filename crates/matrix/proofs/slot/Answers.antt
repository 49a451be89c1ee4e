-- `matrix::slot` meets its contract: past the last slot it says the empty slot.
use mathlib.Core.Path.{◌≡◌}
use Prim.Native.Nat.{◌≤◌}
use native.Mathlib.Omega.{arith}
use borrow.Author.Rules.{rules}
use borrow.Author.Tests.{le-leb, lt-leb}
use lib.ListN.{length, get_or-eq_default}
use Rattle.config.specs.Sizes.{slots}
use Rattle.refusal.specs.Judge.{judged}
use Rattle.slots.specs.Slots.{empty_slot}
use Rattle.slots.specs.Matrix.{slot_of}
use Rattle.matrix.specs.Edits.{slot_at}
use Rattle.matrix.proofs.slot.Goals as goal

pub returns-then-n-ge-SLOTS : goal.returns-then-n-ge-SLOTS
unfolding slot_at slot_of judged
returns-then-n-ge-SLOTS c =
    let a = c.args in
    let long : length a.matrix.slot ≡ slots = search rules in
    let past : length a.matrix.slot ≤ a.n = omega arith in
    simp (le-leb slots a.n c.if-n-ge-SLOTS.true, get_or-eq_default a.matrix.slot empty_slot past)

pub returns : goal.returns
unfolding slot_at judged
returns c = simp (lt-leb slots c.args.n c.if-n-ge-SLOTS.false, c.slot_of.ensures)
