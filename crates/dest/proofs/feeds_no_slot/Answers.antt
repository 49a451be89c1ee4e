-- `dest::feeds_no_slot` meets its contract.
use mathlib.Core.Path.{sym, ap}
use Rattle.dest.specs.Adding.{bad_slot}
use Rattle.dest.proofs.feeds_no_slot.Goals as goal

pub returns-in-Amount : goal.returns-in-Amount
returns-in-Amount c = sym (ap bad_slot c.in-Amount.is)

pub returns-in-Output : goal.returns-in-Output
returns-in-Output c = sym (ap bad_slot c.in-Output.is)
