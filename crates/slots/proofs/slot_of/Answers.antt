-- `slots::slot_of` meets its contract.
use mathlib.Core.Path.{◌≡◌, sym, ◌∙◌}
use native.Mathlib.Omega.{arith}
use borrow.Author.Rules.{rules}
use lib.ListN.{length, get_or-eq_default}
use Rattle.list.proofs.Elements.{get_or-inside, length-mapped}
use Rattle.config.specs.Sizes.{slots}
use Rattle.slots.specs.Slots.{empty_slot}
use Rattle.slots.specs.Matrix.{slot_of}
use Rattle.slots.proofs.slot_of.Goals as goal

pub returns-then-n-lt-SLOTS : goal.returns-then-n-lt-SLOTS
unfolding slot_of
returns-then-n-lt-SLOTS c =
    let a = c.args in
    let long : length a.matrix.slot ≡ slots = search (rules, length-mapped) in
    get_or-inside a.matrix.slot a.n _ empty_slot (omega arith)

pub returns : goal.returns
unfolding slot_of
returns c =
    let a = c.args in
    let long : length a.matrix.slot ≡ slots = search (rules, length-mapped) in
    c.empty_slot.ensures ∙ sym (get_or-eq_default a.matrix.slot empty_slot (omega arith))
