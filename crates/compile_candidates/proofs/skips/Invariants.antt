-- `compile_candidates::skips` meets its contract. The loop's invariant: `out` and those of the verdicts left are all.
use mathlib.Core.Path.{◌≡◌}
use mathlib.Core.List.{◌++◌}
use Prim.Native.Nat.{◌≤◌, ◌-◌}
use lib.ListN.{drop, length}
use Rattle.config.specs.Sizes.{slots}
use Rattle.model.specs.Wiring.{left_out_from}
use Rattle.compile_candidates.proofs.skips.Given as goal

abbrev pub invariant-loop-n : goal.invariant-loop-n
invariant-loop-n l = (l.n ≤ slots) × (l.out.items ++ left_out_from l.n (drop l.n l.verdict) ≡ left_out_from 0 l.verdict) × (length l.out.items ≤ l.n)

abbrev pub decreases-loop-n : goal.decreases-loop-n
decreases-loop-n l = slots - l.n
