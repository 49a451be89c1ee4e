-- `lane_input::worked` meets its contract.
use Rattle.lane_input.proofs.Lanes.{global-worked}
use Rattle.lane_input.proofs.worked.Goals as goal

pub returns-then-not-route : goal.returns-then-not-route
returns-then-not-route c = λ t e.
    let a = c.args in
    global-worked t a.plan a.route a.lane (c.if-not-route.true)

pub returns-then-plan : goal.returns-then-plan
returns-then-plan c = λ t e.
    let a = c.args in
    rw (c.if-not-route.false, c.if-plan.true) (c.in_group.ensures t (rw e))

pub returns : goal.returns
returns c = λ t e.
    let a = c.args in
    rw (c.if-not-route.false, c.if-plan.false, e) c.newest_group.ensures
