-- `state_registry::not_a_number` meets its contract: 0 / 0.
use borrow.Author.Rules.{rules}
use lib.Ieee.{of_bits, div}
use Rattle.state_registry.proofs.not_a_number.Goals as goal

pub returns : goal.returns
unfolding of_bits div
returns c = search rules
