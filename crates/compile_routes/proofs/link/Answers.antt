-- `compile_routes::link` meets its contract.
use Rattle.compile_routes.proofs.link.Goals as goal

pub returns-in-Some : goal.returns-in-Some
returns-in-Some c = rw (c.in-Some.is, c.place.ensures)
