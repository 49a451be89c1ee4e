-- `lane_input::sample_in` meets its contract. A part that lies inside the samples is read as a record, any other by `sample_at`.
use native.Mathlib.Omega.{arith}
use Rattle.list.specs.Part.{part}
use Rattle.lane_input.proofs.Parts.{of-own}
use Rattle.lane_input.proofs.sample_in.Goals as goal

pub returns : goal.returns
unfolding part
returns c = let a = c.args in
    of-own a.samples.now a.part (omega arith) a.frame a.voice a.lane c.read_signal.ensures
