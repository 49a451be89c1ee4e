-- `plan_slews::aux_row` meets its contract. The invariant: the lanes before l are made.
use mathlib.Core.Path.{◌≡◌}
use Prim.Native.Nat.{ℕ, ◌-◌, ◌≤◌}
use lib.ListN.{length}
use Rattle.model.specs.Env.{Env, Rows, Own}
use Rattle.model.specs.Mix.{Mix}
use Rattle.model.specs.Slews.{aux_after}
use Rattle.lane.specs.View.{Viewed}
use Rattle.plan_slews.specs.Rows.{IsRow}
use Rattle.plan_slews.specs.Seen.{Moved}
use Rattle.plan_slews.proofs.aux_row.Given as goal

abbrev pub invariant-loop-l : goal.invariant-loop-l
invariant-loop-l l =
    (l.l ≤ l.n) × (l.n ≤ 64) × (length l.out ≡ 64)
    × ((t : Env) (x : Mix) (f : Rows) (s : Own) (j : ℕ) → Viewed t f s j l.view l.route l.held l.globals l.tables l.samples l.values → x.route j ≡ l.route → Moved t x l.route l.motion → IsRow l.l (aux_after t x f s j) l.out)

abbrev pub decreases-loop-l : goal.decreases-loop-l
decreases-loop-l l = l.n - l.l
