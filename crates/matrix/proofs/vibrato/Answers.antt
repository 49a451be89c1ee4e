-- `matrix::vibrato` meets its contract.
use Rattle.matrix.specs.Routes.{add_vibrato}
use Rattle.matrix.proofs.vibrato.Goals as goal

pub returns : goal.returns
unfolding add_vibrato
returns c = cc (c.kept_amount.ensures, c.route_slot-route.ensures, c.with_aux.ensures, c.place.ensures)
