-- `compile_routes::aux_input` meets its contract.
use Rattle.compile_routes.proofs.aux_input.Goals as goal

pub returns-in-Some : goal.returns-in-Some
returns-in-Some c = rw (c.in-Some.is, c.input.ensures, c.source_at.ensures)
