-- `compile_routes::route_count` meets its contract. The loop's invariant: `count` and how many are left are all.
use mathlib.Core.Path.{◌≡◌}
use Prim.Native.Nat.{◌≤◌, ◌+◌}
use lib.ListN.{drop, length}
use Rattle.model.specs.Plans.{readers_into}
use Rattle.compile_routes.proofs.route_count.Given as goal

abbrev pub invariant-loop-r : goal.invariant-loop-r
invariant-loop-r l = (l.count + length (readers_into l.d (drop l.r-index l.r-items)) ≡ length (readers_into l.d l.readers.items)) × (l.count ≤ l.r-index) × (l.r-items ≡ l.readers.items)
