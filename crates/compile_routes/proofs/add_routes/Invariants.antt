-- `compile_routes::add_routes` meets its contract. The loop's invariant: with those of the readers left, all are there.
use mathlib.Core.Path.{◌≡◌}
use lib.ListN.{drop}
use Rattle.model.specs.Routes.{routes_in}
use Rattle.model.specs.Plans.{readers_into}
use Rattle.compile_routes.specs.Added.{routes_added}
use Rattle.compile_routes.proofs.add_routes.Given as goal

abbrev pub invariant-loop-r : goal.invariant-loop-r
invariant-loop-r l = routes_added l.list.items (routes_in l.rate l.sources l.order.items l.slot l.dest_voice (readers_into l.d (drop l.r-index l.readers)))
    ≡ routes_added l.initial.list.items (routes_in l.rate l.sources l.order.items l.slot l.dest_voice (readers_into l.d l.readers))
