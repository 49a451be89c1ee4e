-- `plan_slews::put_route` meets its contract.
use mathlib.Core.Path.{sym, ◌∙◌}
use Rattle.plan_slews.proofs.Putting.{two-parts}
use Rattle.plan_slews.proofs.put_route.Goals as goal

pub returns-then-still : goal.returns-then-still
returns-then-still c = let k = c.still in
    rw (sym k.ensures ∙ c.if-still.true)

pub returns : goal.returns
returns c = let a = c.args in
    rw (sym c.still.ensures ∙ c.if-still.false)
    (two-parts a.values.now _ _ a.own a.stride a.new.now a.j c.put_part.ensures c.put_part-2.ensures)
