-- `plan_slews::from_lane` meets its contract.
use Rattle.plan_slews.proofs.Ticks.{from-kept, from-started, from-unprimed, from_old}
use Rattle.plan_slews.proofs.from_lane.Goals as goal

pub returns-then-kept : goal.returns-then-kept
returns-then-kept c = λ t x f s o b k e q g.
    let a = c.args in
    let z = c.starting-starts.ensures t x k.snap k.fresh k.voice in
    let d = c.kept.ensures t x a.lane k.primed z in
    from-kept t a.tick.phase x f s o b a.lane d c.if-kept.true g

pub returns-then-starts : goal.returns-then-starts
returns-then-starts c = λ t x f s o b k e q g.
    let a = c.args in
    let z = c.starting-starts.ensures t x k.snap k.fresh k.voice in
    let d = c.kept.ensures t x a.lane k.primed z in
    from-started t a.tick.phase x f s o b a.lane d c.if-kept.false z c.if-starts.true e

pub returns-then-not-tick : goal.returns-then-not-tick
returns-then-not-tick c = λ t x f s o b k e q g.
    let a = c.args in
    let z = c.starting-starts.ensures t x k.snap k.fresh k.voice in
    let d = c.kept.ensures t x a.lane k.primed z in
    from-unprimed t a.tick.phase x f s o b a.lane d c.if-kept.false z c.if-starts.false k.primed c.if-not-tick.true e

pub returns : goal.returns
returns c = λ t x f s o b k e q g.
    let a = c.args in
    let z = c.starting-starts.ensures t x k.snap k.fresh k.voice in
    let d = c.kept.ensures t x a.lane k.primed z in
    from_old t a.tick.phase x f s o b a.lane d c.if-kept.false z c.if-starts.false k.primed c.if-not-tick.false q
