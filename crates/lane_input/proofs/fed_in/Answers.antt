-- `lane_input::fed_in` meets its contract.
use Rattle.model.specs.Input.{own}
use Rattle.lane_input.proofs.fed_in.Goals as goal

pub returns : goal.returns
returns c = λ t f e rows.
    let a = c.args in
    rw (e, rows a.plan (own a.voice a.lane)) c.plan_in.ensures
