-- `engine_settings::refused_state` meets its contract.
use lib.Ieee.{of_bits}
use Rattle.model.specs.Settings.{fresh_state}
use Rattle.engine_settings.specs.Fresh.{fresh_of}
use borrow.Author.Rules.{rules}
use Rattle.engine_settings.proofs.refused_state.Goals as goal

pub returns : goal.returns
unfolding fresh_of fresh_state of_bits
returns c = c.fresh_state.ensures
