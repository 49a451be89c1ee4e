use mathlib.Core.Path.{refl, sym, ◌∙◌}
use native.Mathlib.Omega.{arith}
use borrow.Author.Rules.{rules}
use Rattle.list.proofs.Bools.{and-false, and-true}
use Rattle.slots_tables.proofs.Laws.{allowed-from, allowed-past}
use Rattle.slots_tables.proofs.slots_allowed.Goals as goal

pub loop-i-init : goal.loop-i-init
loop-i-init c = (search rules, search rules, refl)

pub returns-then-not-slot_allowed : goal.returns-then-not-slot_allowed
returns-then-not-slot_allowed c =
    let l = c.loop-i in
    sym (l.invariant.2 ∙ allowed-from _ _ l.i _ (omega arith) ∙ sym (and-false _ (sym c.slot_allowed.ensures ∙ c.if-not-slot_allowed.true)))

pub loop-i-preserved : goal.loop-i-preserved
loop-i-preserved c =
    let l = c.loop-i in
    (search rules, l.invariant.1, l.invariant.2 ∙ allowed-from _ _ l.i _ (omega arith) ∙ sym (and-true (sym c.slot_allowed.ensures ∙ c.if-not-slot_allowed.false)))

pub returns : goal.returns
returns c =
    let l = c.loop-i in
    sym (l.invariant.2 ∙ allowed-past _ _ l.i (omega arith))
