-- `compile_routes::route_by` meets its contract.
use Rattle.model.specs.Routes.{route_by}
use Rattle.compile_routes.proofs.route_by.Goals as goal

pub returns : goal.returns
unfolding route_by
returns c =
    rw (c.any_voice.ensures, c.scale_of.ensures, c.offset_of.ensures, c.is_simple.ensures, c.two_way-bipolar.ensures)
