-- `compile_routes::input` meets its contract.
use Rattle.model.specs.Routes.{input_by}
use Rattle.compile_routes.proofs.input.Goals as goal

pub returns : goal.returns
unfolding input_by
returns c = rw (c.read_by-read.ensures, c.slew_for-slew.ensures, c.is_bipolar.ensures, c.is_linear.ensures)
