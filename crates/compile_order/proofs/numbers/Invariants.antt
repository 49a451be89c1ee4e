-- `compile_order::numbers` meets its contract. The loop's invariant: `out` has the first k numbers.
use mathlib.Core.Path.{◌≡◌}
use Prim.Native.Nat.{◌≤◌, ◌-◌}
use lib.ListN.{take, length}
use Rattle.config.specs.Sizes.{slots}
use Rattle.compile_order.proofs.numbers.Given as goal

abbrev pub invariant-loop-k : goal.invariant-loop-k
invariant-loop-k l = (l.k ≤ slots) × (l.out.items ≡ take l.k l.order.order) × (length l.out.items ≡ l.k)

abbrev pub decreases-loop-k : goal.decreases-loop-k
decreases-loop-k l = slots - l.k
