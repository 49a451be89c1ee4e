-- `compile_order::rated` meets its contract. The loop's invariant: `out` and those of that rate left are all.
use mathlib.Core.Path.{◌≡◌}
use mathlib.Core.List.{◌++◌}
use Prim.Native.Nat.{◌≤◌}
use lib.ListN.{drop, length}
use Rattle.compile_order.specs.Marks.{rated_as}
use Rattle.compile_order.proofs.rated.Given as goal

abbrev pub invariant-loop-u : goal.invariant-loop-u
invariant-loop-u l = (l.out.items ++ rated_as l.audio (drop l.u-index l.used) ≡ rated_as l.audio l.used) × (length l.out.items ≤ l.u-index)
