-- `control_tick::leads_of` meets its contract.
use Rattle.control_tick.proofs.Rounds.{led-is}
use borrow.Author.Rules.{rules}
use Rattle.control_tick.proofs.leads_of.Goals as goal

pub returns : goal.returns
returns c =
    led-is c.args.work _ c.leads_of.result c.last-up_to.result c.last-up_to.ensures.1 c.leads_of.ensures
