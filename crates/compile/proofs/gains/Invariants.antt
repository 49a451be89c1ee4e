-- `compile::gains` meets its contract. The loop's invariant: the slots passed are copied.
use mathlib.Core.Path.{◌≡◌}
use Prim.Native.Nat.{◌-◌, ◌≤◌}
use lib.Ieee.{Float}
use lib.ListN.{length, get_or}
use Rattle.list.proofs.Filled.{Filled}
use Rattle.config.specs.Sizes.{slots}
use Rattle.model.specs.Routes.{no_slot}
use Rattle.compile.proofs.gains.Given as goal

abbrev pub invariant-loop-n : goal.invariant-loop-n
invariant-loop-n l =
    (l.n ≤ slots)
    × (length l.slot ≡ slots)
    × (length l.initial.amount ≡ slots)
    × (length l.initial.output ≡ slots)
    × Filled {A = Float} l.initial.amount (λ k. (get_or l.slot k no_slot).amount) l.n l.amount
    × Filled {A = Float} l.initial.output (λ k. (get_or l.slot k no_slot).output) l.n l.output

abbrev pub decreases-loop-n : goal.decreases-loop-n
decreases-loop-n l = slots - l.n
