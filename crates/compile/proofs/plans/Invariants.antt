-- `compile::plans` meets its contract. The loop's invariant: `out` and the plans of those left, whose routes start at `first`, are all.
use mathlib.Core.Path.{◌≡◌}
use mathlib.Core.List.{◌++◌}
use Prim.Native.Nat.{◌*◌, ◌≤◌}
use lib.ListN.{drop, length}
use Rattle.config.specs.Sizes.{slots}
use Rattle.model.specs.Plans.{plans_in}
use Rattle.compile.proofs.plans.Given as goal

abbrev pub invariant-loop-d : goal.invariant-loop-d
invariant-loop-d l =
    (l.d-items ≡ l.order.items) × (length l.out.items ≤ l.d-index) × (l.first ≤ l.d-index * slots)
    × (l.out.items ++ plans_in l.sources l.dests l.candidates l.readers.items l.first (drop l.d-index l.d-items) ≡ plans_in l.sources l.dests l.candidates l.readers.items 0 l.order.items)
