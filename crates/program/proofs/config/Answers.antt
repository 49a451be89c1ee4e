-- `program::config` meets its contract.
use borrow.Author.Rules.{rules}
use Rattle.program.specs.Readers.{config_of}
use Rattle.program.proofs.config.Goals as goal

pub returns : goal.returns
unfolding config_of
returns c = search rules
