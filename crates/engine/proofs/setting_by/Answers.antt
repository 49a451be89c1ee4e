-- `engine::setting_by` meets its contract.
use lib.Ieee.{of_bits}
use Rattle.engine.proofs.setting_by.Goals as goal

pub returns : goal.returns
unfolding of_bits
returns c = rw (c.legato_time-time.ensures, c.takes_velocity.ensures, c.note_curve.ensures, c.note_curve-2.ensures)
