-- `compile_order::at_places` meets its contract. The loop's invariant: `out` has what stands at the first k places.
use mathlib.Core.Path.{◌≡◌}
use mathlib.Core.List.{map}
use Prim.Native.Nat.{◌≤◌, ◌-◌}
use lib.ListN.{get_or, take, length}
use Rattle.config.specs.Sizes.{slots}
use Rattle.compile_order.proofs.at_places.Given as goal

abbrev pub invariant-loop-k : goal.invariant-loop-k
invariant-loop-k l = (l.k ≤ slots) × (l.out.items ≡ map (λ i. get_or l.list i 0) (take l.k l.order.place)) × (length l.out.items ≡ l.k)

abbrev pub decreases-loop-k : goal.decreases-loop-k
decreases-loop-k l = slots - l.k
