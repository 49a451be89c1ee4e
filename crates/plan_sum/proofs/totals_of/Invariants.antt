-- `plan_sum::totals_of` meets its contract. The invariant: the routes before j are counted.
use mathlib.Core.Path.{◌≡◌}
use Prim.Native.Nat.{◌-◌, ◌≤◌}
use Rattle.model.specs.Env.{Env}
use lib.ListN.{length}
use Rattle.model.specs.Mix.{Mix}
use Rattle.plan_sum.specs.declared.Job.{Job}
use Rattle.plan_sum.specs.Job.{IsJob}
use Rattle.plan_sum.specs.Ground.{Totalled}
use Rattle.plan_sum.proofs.Found.{From}
use Rattle.plan_sum.proofs.totals_of.Given as goal

abbrev pub invariant-loop-j : goal.invariant-loop-j
invariant-loop-j l = (l.j ≤ l.count) × (length l.routes ≡ 64) × (length l.parts ≡ 128) × ((t : Env) (x : Mix) (w : Job) → IsJob t x w → From w l.ground l.routes l.parts l.first l.count → Totalled t x l.j l.out)

abbrev pub decreases-loop-j : goal.decreases-loop-j
decreases-loop-j l = l.count - l.j
