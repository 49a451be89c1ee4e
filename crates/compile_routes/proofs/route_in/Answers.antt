-- `compile_routes::route_in` meets its contract: part by part.
use Rattle.compile_routes.proofs.Parts.{route-parts}
use Rattle.compile_routes.proofs.route_in.Goals as goal

pub returns : goal.returns
returns c =
    rw (
      c.route_by.ensures,
      c.link-4.ensures,
      c.link-3.ensures,
      c.aux_input.ensures,
      c.link-2.ensures,
      c.input.ensures,
      c.link.ensures,
      c.source_at.ensures,
      route-parts,
    )
