-- `slots_tables::place_allowed` meets its contract.
use mathlib.Core.Path.{sym, ◌∙◌}
use Rattle.list.specs.Part.{part}
use Rattle.slots_tables.proofs.Laws.{place-past, place_short, place-whole}
use Rattle.slots_tables.proofs.place_allowed.Goals as goal

pub returns-then-len-start : goal.returns-then-len-start
returns-then-len-start c = sym (place-past _ _ c.if-len-start.true)

pub returns-then-len-end : goal.returns-then-len-end
unfolding part
returns-then-len-end c = c.numbers_allowed.ensures ∙ sym (place_short _ _ c.if-len-end.true)

pub returns : goal.returns
unfolding part
returns c = c.numbers_allowed-2.ensures ∙ sym (place-whole _ _)
