-- `plan_sweep::some_rows` meets its contract. The invariant: the rows before n are put.
use mathlib.Core.Path.{◌≡◌}
use Prim.Native.Nat.{◌-◌, ◌≤◌}
use lib.ListN.{length}
use Rattle.plan_sweep.specs.Sweep.{some_rows}
use Rattle.plan_sweep.proofs.some_rows.Given as goal

abbrev pub invariant-loop-n : goal.invariant-loop-n
invariant-loop-n l = (l.n ≤ l.len) × (length l.audio ≡ length l.initial.audio) × (l.audio ≡ some_rows l.over l.starts l.steps l.gains l.samples l.pass 0 l.frame l.n l.initial.audio)

abbrev pub decreases-loop-n : goal.decreases-loop-n
decreases-loop-n l = l.len - l.n
