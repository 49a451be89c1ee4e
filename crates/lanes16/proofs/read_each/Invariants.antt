-- `lanes16::read_each` meets its contract. The invariant: the lanes below l are done.
use mathlib.Core.Path.{◌≡◌}
use Prim.Native.Nat.{ℕ, ◌+◌, ◌-◌, ◌≤◌}
use lib.ListN.{length}
use lib.Ieee.{Float}
use Rattle.plan_sum.proofs.Lanes.{Laned}
use Rattle.model.specs.Env.{Env, Rows, Own}
use Rattle.lanes16.specs.Told.{read_at, Told}
use Rattle.lanes16.proofs.read_each.Given as goal

abbrev pub invariant-loop-l : goal.invariant-loop-l
invariant-loop-l l = (l.l ≤ 16) × (length l.initial.out ≡ 16) × Laned (λ (i : ℕ) (y z : Float). (t : Env) (f : Rows) (s : Own) (j : ℕ) → Told t f s j l.view l.read l.part l.held l.globals l.samples l.values → z ≡ read_at t f s j l.position l.read (l.lane + i)) l.l l.initial.out l.out

abbrev pub decreases-loop-l : goal.decreases-loop-l
decreases-loop-l l = 16 - l.l
