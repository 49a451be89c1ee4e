-- `lane_input::input_in` meets its contract.
use Rattle.lane_input.proofs.Reading.{input_of}
use Rattle.lane_input.proofs.input_in.Goals as goal

pub returns : goal.returns
returns c = λ t f see works e.
    let a = c.args in
    let raw = c.read_in-raw in
    let uni = c.unipolar in
    let cur = c.curved-u in
    input_of t f a.slot a.position a.lead.snap a.lead.prev a.lead.random a.lane a.input raw.result uni.result cur.result c.slewed.result
    (raw.ensures t f see e) uni.ensures (cur.ensures t works.tables) (c.slewed.ensures t works.steps)
