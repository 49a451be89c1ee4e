use mathlib.Core.Path.{refl, sym, ◌∙◌}
use native.Mathlib.Omega.{arith}
use borrow.Author.Rules.{rules}
use Rattle.list.proofs.Bools.{or-true, or-false}
use Rattle.slots_tables.proofs.Laws.{names-from, names-past}
use Rattle.slots_tables.proofs.any_names.Goals as goal

pub loop-i-init : goal.loop-i-init
loop-i-init c = (search rules, search rules, refl)

pub returns-then-slot_names : goal.returns-then-slot_names
returns-then-slot_names c =
    let l = c.loop-i in
    sym (l.invariant.2 ∙ names-from _ l.i _ (omega arith) ∙ sym (or-true _ (sym c.slot_names.ensures ∙ c.if-slot_names.true)))

pub loop-i-preserved : goal.loop-i-preserved
loop-i-preserved c =
    let l = c.loop-i in
    (search rules, l.invariant.1, l.invariant.2 ∙ names-from _ l.i _ (omega arith) ∙ sym (or-false (sym c.slot_names.ensures ∙ c.if-slot_names.false)))

pub returns : goal.returns
returns c =
    let l = c.loop-i in
    sym (l.invariant.2 ∙ names-past _ l.i (omega arith))
