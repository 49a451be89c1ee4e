-- `block_prepare::field_of` meets its contract.
use Rattle.block_prepare.proofs.Courses.{field-is}
use Rattle.block_prepare.proofs.field_of.Goals as goal

pub returns : goal.returns
returns c =
    field-is _ _ _ _ _ _ c.lane_stride-stride.ensures c.at_most-frames.ensures c.field_of.ensures
