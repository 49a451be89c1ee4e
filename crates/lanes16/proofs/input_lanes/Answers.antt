-- `lanes16::input_lanes` meets its contract.
use Prim.Native.Nat.{◌+◌}
use Rattle.lane_input.proofs.Reading.{input_of}
use Rattle.lanes16.proofs.input_lanes.Goals as goal

pub returns : goal.returns
returns c = λ t f s j e w d l h. let a = c.args in input_of t f a.slot a.position _ _ _ (a.lane + l) a.input _ _ _ _ (c.raw_lanes-raw.ensures t f s j e d l h) (c.unipolar_lanes-unit.ensures l h) (c.curved_lanes-u.ensures t w.tables l h) (c.slewed_lanes.ensures t s j w.steps e.reads.stride e.own l h)
