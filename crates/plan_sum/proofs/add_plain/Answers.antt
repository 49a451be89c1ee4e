-- `plan_sum::add_plain` meets its contract.
use mathlib.Core.Path.{ap}
use mathlib.Core.Bool.{not}
use mathlib.Core.Path.{sym, ap, ◌∙◌}
use Prim.Native.Nat.{◌<◌}
use Rattle.model.specs.Counts.{at}
use Rattle.plan_sum.specs.declared.Ground.{Ground}
use Rattle.plan_sum.specs.Ground.{view_by}
use lib.Ieee.{of_bits}
use Rattle.plan_sum.proofs.Found.{route-is, plain-is, stands, shown}
use Rattle.plan_sum.proofs.Steps.{plain-left, plain-zero, plain-added, in-span}
use Rattle.plan_sum.proofs.add_plain.Goals as goal

pub returns-then-not-is_plain : goal.returns-then-not-is_plain
returns-then-not-is_plain c = λ t f s x w k ch h q sp l b.
    let a = c.args in
    plain-left t f s x a.j l (at a.row l) (route-is a.j k.job h ch.route) (plain-is a.route k.job (c.is_plain.ensures t w ch.ground k.job.scene q)) (ap not c.if-not-is_plain.true)

pub returns-then-gain : goal.returns-then-gain
unfolding of_bits
returns-then-gain c = λ t f s x w k ch h q sp l b.
    let a = c.args in
    plain-zero t f s x a.j l (at a.row l) (route-is a.j k.job h ch.route) (k.job.scene.gains ∙ sym (ap (λ (g : Ground). g.gains) ch.ground)) c.slot_gain.ensures c.if-gain.true

pub plain_lanes-requires : goal.plain_lanes-requires
plain_lanes-requires c = let v = c.view_for-view.ensures in let pre = c.requires in (v.1, pre.1, rw v.0 pre.2)

pub returns : goal.returns
unfolding of_bits
returns c = λ t f s x w k ch h q sp l b.
    let a = c.args in
    let v = c.view_for-view.ensures.0 ∙ ap (λ (g : Ground). view_by g a.j a.route a.part a.part) ch.ground in
    let z = stands a.j a.part a.part k v ch.past in
    let near : l < c.view_for-view.result.point.stride = rw v b in
    plain-added t f s z.by x a.j l (at a.row l) (route-is a.j k.job h ch.route) (plain-is a.route k.job (c.is_plain.ensures t w ch.ground k.job.scene q)) (ap not c.if-not-is_plain.false)
    (k.job.scene.gains ∙ sym (ap (λ (g : Ground). g.gains) ch.ground)) c.slot_gain.ensures c.if-gain.false (z.raw l) (in-span _ _ _ _ (sp l (rw k.job.scene.stride b)) (c.plain_lanes.ensures t f z.by a.j (shown a.j k v q z) l near))
