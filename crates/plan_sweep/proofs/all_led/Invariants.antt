-- `plan_sweep::all_led` meets its contract. The invariant: the routes before j are swept.
use Prim.Native.Nat.{ℕ, ◌+◌, ◌-◌, ◌≤◌, ◌<◌}
use lib.ListN.{get_or}
use Rattle.plan_sweep.proofs.all_led.Given as goal

abbrev pub invariant-loop-j : goal.invariant-loop-j
invariant-loop-j l = (l.j ≤ l.count) × ((i : ℕ) → i < l.j → 0 < get_or l.steps (l.first + i) 0)

abbrev pub decreases-loop-j : goal.decreases-loop-j
decreases-loop-j l = l.count - l.j
