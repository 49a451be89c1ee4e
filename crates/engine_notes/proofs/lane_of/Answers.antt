-- `engine_notes::lane_of` meets its contract.
use Rattle.engine_notes.proofs.lane_of.Goals as goal

pub returns : goal.returns
returns c = rw (c.held_sources.ensures, c.lane_stride.ensures)
