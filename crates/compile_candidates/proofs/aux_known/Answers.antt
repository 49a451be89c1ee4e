-- `compile_candidates::aux_known` meets its contract.
use Rattle.compile_candidates.proofs.aux_known.Goals as goal

pub returns-in-Some : goal.returns-in-Some
returns-in-Some c = rw c.in-Some.is c.known_source.ensures
