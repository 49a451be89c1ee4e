-- `plan_sum::add_plains` meets its contract. The invariant: the plain routes before j are added.
use mathlib.Core.Path.{◌≡◌}
use Prim.Native.Nat.{ℕ, ◌-◌, ◌≤◌, ◌<◌}
use mathlib.Core.Bool.{cond}
use lib.Ieee.{Float}
use Rattle.number.specs.Number.{plus}
use Rattle.model.specs.Counts.{at}
use Rattle.model.specs.Env.{Env, Rows, Own}
use lib.ListN.{length}
use Rattle.model.specs.Mix.{Mix}
use Rattle.plan_sum.specs.declared.Job.{Job}
use Rattle.model.specs.Lanes.{in_span}
use Rattle.model.specs.Sums.{base_in, offsets, plains}
use Rattle.plan_sum.specs.Job.{Mixes}
use Rattle.plan_sum.specs.Ground.{Based, Spanned}
use Rattle.plan_sum.proofs.Found.{From}
use Rattle.plan_sum.proofs.add_plains.Given as goal

abbrev pub invariant-loop-j : goal.invariant-loop-j
invariant-loop-j v = (v.j ≤ v.count) × (length v.routes ≡ 64) × (length v.parts ≡ 128) × Based v.ground × (v.span.first ≤ v.span.end) × (v.span.end ≤ v.ground.point.stride) × ((t : Env) (f : Rows) (s : Own) (x : Mix) (w : Job) → Mixes t f s x w v.held v.globals v.samples v.values → From w v.ground v.routes v.parts v.first v.count → Spanned t v.span → (l : ℕ) → l < w.scene.stride → (a : Float) → at v.initial.out l ≡ cond (in_span t l) (plus (base_in t x) (offsets t x x.count)) a → at v.out l ≡ cond (in_span t l) (plains t f s x l v.j) a)

abbrev pub decreases-loop-j : goal.decreases-loop-j
decreases-loop-j v = v.count - v.j
