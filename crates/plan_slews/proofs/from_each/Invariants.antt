-- `plan_slews::from_each` meets its contract. The invariant: the lanes before l are made.
use mathlib.Core.Path.{◌≡◌}
use Prim.Native.Nat.{◌-◌, ◌≤◌}
use lib.ListN.{length}
use Rattle.model.specs.Env.{Env, Rows, Own}
use Rattle.model.specs.Mix.{Mix}
use Rattle.model.specs.Tick.{lanes_from, held_sum, new_from}
use Rattle.plan_slews.specs.Rows.{IsRow}
use Rattle.plan_slews.specs.Seen.{Ticks}
use Rattle.plan_slews.proofs.from_each.Given as goal

abbrev pub invariant-loop-l : goal.invariant-loop-l
invariant-loop-l l =
    (l.l ≤ l.n) × (l.n ≤ 64) × (length l.out ≡ 64)
    × ((t : Env) (x : Mix) (f : Rows) (s : Own) → Ticks t x l.tick → IsRow l.n (held_sum t f s x) l.sums → IsRow l.l (new_from t l.tick.phase x f s (lanes_from l.values l.start) (lanes_from l.values l.from)) l.out)

abbrev pub decreases-loop-l : goal.decreases-loop-l
decreases-loop-l l = l.n - l.l
