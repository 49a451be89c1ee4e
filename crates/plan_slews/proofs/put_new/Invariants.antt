-- `plan_slews::put_new` meets its contract. The invariant: the routes before j are put.
use mathlib.Core.Path.{◌≡◌}
use Prim.Native.Nat.{◌-◌, ◌≤◌}
use lib.ListN.{length}
use Rattle.plan_slews.specs.Put.{put_new}
use Rattle.plan_slews.proofs.put_new.Given as goal

abbrev pub invariant-loop-j : goal.invariant-loop-j
invariant-loop-j l =
    (l.j ≤ l.n) × (length l.routes ≡ 64) × (length l.values ≡ length l.initial.values) × (l.values ≡ put_new l.stride l.chunks l.plans l.first l.routes l.new l.j l.initial.values)

abbrev pub decreases-loop-j : goal.decreases-loop-j
decreases-loop-j l = l.n - l.j
