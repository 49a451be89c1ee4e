-- `plan_sweep::most_rows` meets its contract. The invariant: the first j routes are in the rows, and some are left; where j is 0, the rows are as they were.
use mathlib.Core.Path.{◌≡◌}
use Prim.Native.Nat.{◌-◌, ◌<◌}
use lib.ListN.{length}
use Rattle.plan_sweep.specs.Sweep.{swept_rows, head_of}
use Rattle.plan_sweep.proofs.most_rows.Given as goal

abbrev pub invariant-loop-j : goal.invariant-loop-j
invariant-loop-j l = (l.j < l.pass.count) × (length l.audio ≡ length l.initial.audio) × (l.j ≡ 0 → l.audio ≡ l.initial.audio) × (0 < l.j → l.audio ≡ swept_rows l.starts l.steps l.gains l.samples (head_of l.pass l.j) 0 l.frame l.len l.initial.audio)

abbrev pub decreases-loop-j : goal.decreases-loop-j
decreases-loop-j l = l.pass.count - l.j
