-- `plan_mix::mix_all` meets its contract. The invariant: the routes before j are done.
use mathlib.Core.Path.{◌≡◌}
use mathlib.Core.Bool.{true, false}
use Prim.Native.Nat.{ℕ, ◌-◌, ◌≤◌, ◌<◌}
use lib.ListN.{length}
use Rattle.config.specs.Sizes.{slots}
use Rattle.model.specs.Counts.{at}
use Rattle.model.specs.Env.{Env, Rows, Own}
use Rattle.model.specs.Mix.{Mix}
use Rattle.model.specs.Sums.{others}
use Rattle.lane_input.specs.Reads.{Works, point_of}
use Rattle.plan_sum.specs.declared.Job.{Job}
use Rattle.plan_sum.specs.Job.{Mixes}
use Rattle.plan_sum.specs.Ground.{Based, Reached}
use Rattle.plan_slews.specs.Put.{new_need, IsNew}
use Rattle.plan_sum.proofs.Found.{From}
use Rattle.plan_mix.proofs.mix_all.Given as goal

abbrev pub invariant-loop-j : goal.invariant-loop-j
invariant-loop-j v =
    (v.j ≤ v.count) × (length v.routes ≡ 64) × (length v.parts ≡ 128) × Based v.ground × (v.reach.lanes ≤ 64) × (v.ground.voice ≡ false → v.reach.lanes ≤ 1)
    × ((t : Env) (f : Rows) (s : Own) (x : Mix) (w : Job) → Mixes t f s x w v.held v.globals v.samples v.values → Works t (point_of w.scene w.chunks) v.tables → From w v.ground v.routes v.parts v.first v.count → Reached t v.reach
    → ((l : ℕ) → l < v.reach.lanes → at v.sums l ≡ others t f s x l (at v.initial.sums l) v.j) × ((i : ℕ) → i < v.j → i < slots → IsNew t x f s i (x.route i) v.new))
    × (v.ground.voice ≡ true → v.reach.lanes ≤ v.ground.point.stride) × (length v.new ≡ new_need) × (length v.sums ≡ 64) × (length v.initial.new ≡ new_need) × (length v.initial.sums ≡ 64)

abbrev pub decreases-loop-j : goal.decreases-loop-j
decreases-loop-j v = v.count - v.j
