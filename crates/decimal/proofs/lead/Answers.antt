-- `decimal::lead` meets its contract. Assumes nothing.
use Rattle.std.proofs.Common.{arith}
use Rattle.std.proofs.lemmas.Grind.{common_steps}
use Rattle.std.proofs.lemmas.Option.{gets}
use Rattle.decimal.specs.Decimal.{lead}
use Rattle.decimal.proofs.lead.Goals as goal

pub returns : goal.returns
unfolding lead
returns c = grind (arith, common_steps, gets)
