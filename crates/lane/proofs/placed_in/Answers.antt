-- `lane::placed_in` meets its contract.
use Rattle.lane.proofs.Values.{input-from}
use Rattle.lane.proofs.placed_in.Goals as goal

pub returns : goal.returns
returns c = λ t f s j reads works own e.
    let a = c.args in
    let prev = c.own_at-prev in
    let random = c.own_at-random in
    input-from t f a.slot a.position a.snap a.lane a.input prev.result random.result
    (c.input_in.ensures t f reads works e) (prev.ensures t s j reads.stride own) (random.ensures t s j reads.stride own)
