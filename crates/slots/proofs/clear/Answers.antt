-- `slots::clear` meets its contract.
use mathlib.Core.Path.{sym, ◌∙◌}
use Rattle.slots.proofs.Laws.{cleared-aimed, cleared-other}
use Rattle.slots.proofs.clear.Goals as goal

pub returns-then-aims_at : goal.returns-then-aims_at
returns-then-aims_at c =
    let a = c.args in
    c.empty_slot.ensures ∙ sym (cleared-aimed a.target a.slot (sym c.aims_at.ensures ∙ c.if-aims_at.true))

pub returns : goal.returns
returns c =
    let a = c.args in
    sym (cleared-other a.target a.slot (sym c.aims_at.ensures ∙ c.if-aims_at.false))
