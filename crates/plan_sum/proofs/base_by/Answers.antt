-- `plan_sum::base_by` meets its contract.
use Rattle.plan_sum.proofs.base_by.Goals as goal

pub returns-in-Set : goal.returns-in-Set
returns-in-Set c = rw c.in-Set.is (rw c.not_a_number.ensures at c.read.ensures)

pub returns-in-Held : goal.returns-in-Held
returns-in-Held c = rw c.in-Held.is (rw c.not_a_number-in-Held.ensures at c.read-in-Held.ensures)

pub returns-in-Amount : goal.returns-in-Amount
returns-in-Amount c = rw c.in-Amount.is c.gain_at.ensures

pub returns-in-Output : goal.returns-in-Output
returns-in-Output c = rw c.in-Output.is c.gain_at-in-Output.ensures
