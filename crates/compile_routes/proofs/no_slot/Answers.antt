-- `compile_routes::no_slot` meets its contract.
use Rattle.compile_routes.proofs.no_slot.Goals as goal

pub returns : goal.returns
returns c = rw c.not_a_number-nan.ensures
