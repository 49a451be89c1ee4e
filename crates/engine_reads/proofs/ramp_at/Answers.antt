-- `engine_reads::ramp_at` meets its contract.
use Rattle.engine_reads.proofs.Ramps.{ramp-at-is}
use lib.Ieee.{of_bits}
use Rattle.engine_reads.proofs.ramp_at.Goals as goal

pub returns : goal.returns
unfolding of_bits
returns c =
    let a = c.args in
    ramp-at-is a.from a.to a.j c.nearest_u64_to_f32.ensures
