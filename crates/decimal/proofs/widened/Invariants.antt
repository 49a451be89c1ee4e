-- `decimal::widened` meets its contract. Assumes nothing.
use mathlib.Core.Path.{◌≡◌}
use Prim.Native.Nat.{◌+◌, ◌-◌, ◌*◌, ◌/◌, ◌^◌, ◌<◌}
use Rattle.decimal.proofs.widened.Given as goal

abbrev pub invariant-loop-value : goal.invariant-loop-value
invariant-loop-value l = (l.value ≡ l.d * 2 ^ l.steps) × (l.steps < l.value) × (l.value < 2 ^ 40)

abbrev pub decreases-loop-value : goal.decreases-loop-value
decreases-loop-value l = l.m / 2 ^ 24 + 1 - l.value
