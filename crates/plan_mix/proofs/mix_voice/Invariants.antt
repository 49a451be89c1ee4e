-- `plan_mix::mix_voice` meets its contract. The invariant: the groups before g are done.
use mathlib.Core.Path.{◌≡◌}
use Prim.Native.Nat.{◌-◌, ◌*◌, ◌/◌, ◌≤◌, ◌<◌}
use lib.ListN.{length}
use Rattle.plan_sum.specs.Ground.{Inside}
use Rattle.lane.specs.View.{Placed}
use Rattle.plan_slews.specs.Put.{new_need}
use Rattle.plan_mix.proofs.Voices.{Voiced}
use Rattle.plan_mix.proofs.mix_voice.Given as goal

abbrev pub invariant-loop-g : goal.invariant-loop-g
invariant-loop-g l =
    (l.g ≤ l.n) × (l.n ≡ l.view.point.stride / 16) × (length l.groups ≡ 4) × Placed l.view × (l.j < 64) × (length l.new ≡ new_need) × (length l.sums ≡ 64) × Inside l.source l.view.point.stride l.held l.samples l.values
    × Inside l.with l.view.point.stride l.held l.samples l.values × Voiced l.j l.route l.view l.held l.globals l.tables l.samples l.values l.groups l.fresh l.snap l.source l.with (l.g * 16) l.initial.new l.new l.initial.sums l.sums
    × (length l.initial.new ≡ new_need) × (length l.initial.sums ≡ 64)

abbrev pub decreases-loop-g : goal.decreases-loop-g
decreases-loop-g l = l.n - l.g
