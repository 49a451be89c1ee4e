-- `compile::routes` meets its contract. The loop's invariant: with the routes of those left, all are there.
use mathlib.Core.Path.{◌≡◌}
use mathlib.Core.List.{[]}
use lib.ListN.{drop}
use Rattle.model.specs.Plans.{routes_over}
use Rattle.compile_routes.specs.Added.{routes_added}
use Rattle.compile.proofs.routes.Given as goal

abbrev pub invariant-loop-d : goal.invariant-loop-d
invariant-loop-d l =
    (l.d-items ≡ l.order.items)
    × (routes_added l.out.items (routes_over l.rate l.sources l.dests l.slot l.readers l.order.items (drop l.d-index l.d-items))
    ≡ routes_added [] (routes_over l.rate l.sources l.dests l.slot l.readers l.order.items l.order.items))
