-- `lane_input::addend` meets its contract.
use mathlib.Core.Path.{◌∙◌}
use Rattle.lane_input.proofs.Lanes.{own-addend}
use Rattle.lane_input.proofs.addend.Goals as goal

pub returns-then-plan : goal.returns-then-plan
returns-then-plan c = λ t e.
    let a = c.args in
    let g = c.in_group in
    let o = c.own in
    c.lane_if.ensures
    ∙ own-addend t a.plan a.route a.lane g.result o.result c.if-plan.true (g.ensures t (rw e)) o.ensures

pub returns-then-route : goal.returns-then-route
returns-then-route c = λ t e. rw (c.if-plan.false, c.if-route.true, e)

pub returns : goal.returns
returns c = λ t e. rw (c.if-plan.false, c.if-route.false)
