-- `decimal::raised` meets its contract. Assumes nothing.
use mathlib.Core.Path.{◌≡◌}
use Prim.Native.Nat.{◌-◌, ◌*◌, ◌^◌, ◌<◌}
use Rattle.decimal.proofs.raised.Given as goal

abbrev pub invariant-loop-value : goal.invariant-loop-value
invariant-loop-value l = (l.value ≡ l.m * 2 ^ l.steps) × (l.steps < l.value) × (l.value < l.b * 2 ^ 24)

abbrev pub decreases-loop-value : goal.decreases-loop-value
decreases-loop-value l = l.b * 2 ^ 23 - l.value
