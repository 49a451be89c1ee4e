-- `lanes16::read_lanes` meets its contract.
use Prim.Native.Nat.{◌+◌}
use Rattle.model.specs.RouteValue.{own_at}
use Rattle.lane_input.proofs.Reading.{signal-read}
use Rattle.lanes16.proofs.read_lanes.Goals as goal

pub returns-in-Signal : goal.returns-in-Signal
returns-in-Signal c =
    let a = c.args in
    λ t f s j e l h. signal-read e.reads (own_at t s j (2 + a.position) (a.lane + l)) (a.lane + l) _ c.in-Signal.is e.part (c.sample_lanes.ensures l h)
