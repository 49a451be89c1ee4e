-- `compile_routes::place` meets its contract. The loop's invariant: d is none of the first i.
use mathlib.Core.Path.{◌≡◌}
use Prim.Native.Nat.{◌≤◌, ◌+◌}
use lib.ListN.{drop, length}
use Rattle.feed.specs.Numbers.{index_of}
use Rattle.compile_routes.proofs.place.Given as goal

abbrev pub invariant-loop-i : goal.invariant-loop-i
invariant-loop-i l = (l.i + index_of l.d (drop l.i l.order.items) ≡ index_of l.d l.order.items) × (l.i ≤ length l.order.items)
