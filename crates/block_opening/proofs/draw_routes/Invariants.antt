-- `block_opening::draw_routes` meets its contract. The invariant: the first r routes have had their turn.
use mathlib.Core.Path.{◌≡◌}
use Prim.Native.Nat.{◌≤◌, ◌-◌}
use lib.ListN.{length}
use Rattle.block_opening.specs.Draws.{drawn_routes}
use Rattle.block_opening.proofs.Draws.{drawn_of}
use Rattle.block_opening.proofs.draw_routes.Given as goal

abbrev pub invariant-loop-r : goal.invariant-loop-r
invariant-loop-r l = (l.r ≤ l.routes) × (length l.route ≡ 64) × (length l.values ≡ length l.initial.values) × (drawn_of l.last l.values ≡ drawn_routes l.renoted l.n l.stride l.chunks l.plans l.route l.r (drawn_of l.draw l.initial.values))

abbrev pub decreases-loop-r : goal.decreases-loop-r
decreases-loop-r l = l.routes - l.r
