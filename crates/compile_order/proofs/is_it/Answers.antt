-- `compile_order::is_it` meets its contract.
use Rattle.compile_order.proofs.is_it.Goals as goal

pub returns-in-Some : goal.returns-in-Some
returns-in-Some c = rw c.in-Some.is
