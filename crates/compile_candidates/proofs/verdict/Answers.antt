-- `compile_candidates::verdict` meets its contract.
use Rattle.model.specs.Wiring.{verdict}
use Rattle.compile_candidates.proofs.verdict.Goals as goal

pub returns-in-None : goal.returns-in-None
unfolding verdict
returns-in-None c = rw c.in-None.is

pub returns-in-Some : goal.returns-in-Some
unfolding verdict
returns-in-Some c = rw c.in-Some.is c.aimed.ensures
