-- `program::rate` meets its contract. The loop's invariant: the first i plans are others'.
use mathlib.Core.Path.{◌≡◌}
use Prim.Native.Nat.{◌≤◌, ◌-◌, min}
use lib.ListN.{length, take}
use Rattle.config.specs.Sizes.{slots}
use Rattle.program.proofs.Rates.{Others}
use Rattle.program.proofs.rate.Given as goal

abbrev pub invariant-loop-i : goal.invariant-loop-i
invariant-loop-i l =
    (l.i ≤ l.n) × (length l.program.plan ≡ slots) × Others (take (min l.program.plans slots) l.program.plan) l.dest l.i

abbrev pub decreases-loop-i : goal.decreases-loop-i
decreases-loop-i l = l.n - l.i
