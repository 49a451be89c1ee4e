-- `engine_settings::fresh_state` meets its contract.
use lib.Ieee.{of_bits}
use Rattle.engine_settings.specs.Fresh.{fresh_of}
use borrow.Author.Rules.{rules}
use Rattle.engine_settings.proofs.fresh_state.Goals as goal

pub returns : goal.returns
unfolding fresh_of of_bits
returns c = rw (c.empty_of-program.ensures, c.limit_of-limit.ensures, c.new-notes.ensures, c.new-marks.ensures, c.new-voices.ensures)
