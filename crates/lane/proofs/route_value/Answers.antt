-- `lane::route_value` meets its contract.
use Rattle.lane.proofs.Values.{value_of}
use Rattle.lane.proofs.route_value.Goals as goal

pub returns : goal.returns
returns c = λ t f s j v e.
    let a = c.args in
    value_of t f s j a.lane a.route (c.sourced-p.ensures t f s j v e) (c.with_aux-x.ensures t f s j v e) (c.gained.ensures t f v.reads.stride v.reads.rows v.amount v.output)
