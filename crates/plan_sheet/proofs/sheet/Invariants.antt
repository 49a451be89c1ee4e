-- `plan_sheet::sheet` meets its contract. The invariant: the plans before d have their rows.
use mathlib.Core.Path.{◌≡◌}
use Prim.Native.Nat.{◌-◌, ◌≤◌}
use lib.ListN.{length}
use Rattle.plan_sheet.specs.Sheet.{Sheet}
use Rattle.plan_sheet.proofs.sheet.Given as goal

abbrev pub invariant-loop-d : goal.invariant-loop-d
invariant-loop-d l =
    (l.d ≤ l.n) × (length l.plans ≡ 64) × Sheet l.field l.steps l.offsets l.levels l.globals l.bases l.plans l.d l.numbers l.words

abbrev pub decreases-loop-d : goal.decreases-loop-d
decreases-loop-d l = l.n - l.d
