-- `plan_turning::fill` meets its contract. The invariant: the lanes below l are filled.
use mathlib.Core.Path.{◌≡◌}
use Prim.Native.Nat.{ℕ, ◌-◌, ◌≤◌}
use lib.ListN.{length}
use Rattle.model.specs.Tick.{fill_from}
use Rattle.plan_turning.proofs.fill.Given as goal

abbrev pub invariant-loop-l : goal.invariant-loop-l
invariant-loop-l l = (l.l ≤ l.n) × (length l.rows ≡ length l.initial.rows) × (l.rows ≡ fill_from l.initial.rows l.start (λ (i : ℕ). l.x) l.l)

abbrev pub decreases-loop-l : goal.decreases-loop-l
decreases-loop-l l = l.n - l.l
