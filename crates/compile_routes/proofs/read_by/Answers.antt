-- `compile_routes::read_by` meets its contract.
use Rattle.compile_routes.proofs.read_by.Goals as goal

pub returns-in-Live : goal.returns-in-Live
returns-in-Live c = rw (c.in-Live.is, c.unfed_read.ensures, c.is_voice-own.ensures)

pub returns-in-Fed : goal.returns-in-Fed
returns-in-Fed c = rw c.in-Fed.is
