-- `plan_slews::to_lane` meets its contract.
use Rattle.plan_slews.proofs.Ticks.{to-kept, to-new}
use Rattle.plan_slews.proofs.to_lane.Goals as goal

pub returns-then-kept : goal.returns-then-kept
returns-then-kept c = λ t x f s o k e q.
    let a = c.args in
    let z = c.starting-starts.ensures t x k.snap k.fresh k.voice in
    to-kept t a.tick.phase x f s o o a.lane (c.kept.ensures t x a.lane k.primed z) c.if-kept.true q

pub returns : goal.returns
returns c = λ t x f s o k e q.
    let a = c.args in
    let z = c.starting-starts.ensures t x k.snap k.fresh k.voice in
    to-new t a.tick.phase x f s o o a.lane (c.kept.ensures t x a.lane k.primed z) c.if-kept.false e
