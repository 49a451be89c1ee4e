-- `plan_sum::add_other` meets its contract.
use mathlib.Core.Path.{sym, ap, ◌∙◌}
use Rattle.model.specs.Counts.{at}
use Rattle.plan_sum.specs.declared.Ground.{Ground}
use Rattle.plan_sum.specs.Ground.{view_by}
use Rattle.plan_sum.proofs.Found.{route-is, plain-is, stands, viewed, amount-shown, output-shown}
use Rattle.plan_sum.proofs.Steps.{other-plain, other-idle, other-added}
use Rattle.plan_sum.proofs.add_other.Goals as goal

pub returns-then-is_plain : goal.returns-then-is_plain
returns-then-is_plain c = λ t f s x w k o ch re h q p l b.
    let a = c.args in
    other-plain t f s x a.j l (at a.row l) (route-is a.j k.job h ch.route) (plain-is a.route k.job (c.is_plain.ensures t w ch.ground k.job.scene q)) c.if-is_plain.true

pub returns-then-idle : goal.returns-then-idle
returns-then-idle c = λ t f s x w k o ch re h q p l b.
    let a = c.args in
    let v = c.view_for-view.ensures.0 ∙ ap (λ (g : Ground). view_by g a.j a.route a.source a.aux) ch.ground in
    other-idle t f s x a.j l (at a.row l) (route-is a.j k.job h ch.route) (plain-is a.route k.job (c.is_plain.ensures t w ch.ground k.job.scene q)) c.if-is_plain.false
    (c.idle.ensures t (amount-shown w a.j a.route k.job.scene v) (output-shown w a.j a.route k.job.scene v)) c.if-idle.true

pub returns : goal.returns
returns c = λ t f s x w k o ch re h q p l b.
    let a = c.args in
    let v = c.view_for-view.ensures.0 ∙ ap (λ (g : Ground). view_by g a.j a.route a.source a.aux) ch.ground in
    let z = stands a.j a.source a.aux k v ch.past in
    other-added t f s z.by x a.j l (at a.row l) (k.job.mix.voice ∙ sym (ap (λ (g : Ground). g.voice) ch.ground)) (route-is a.j k.job h ch.route) (plain-is a.route k.job (c.is_plain.ensures t w ch.ground k.job.scene q)) c.if-is_plain.false
    (c.idle.ensures t (amount-shown w a.j a.route k.job.scene v) (output-shown w a.j a.route k.job.scene v)) c.if-idle.false z.value (c.other_lanes.ensures t f z.by a.j re (viewed a.j k o v q p z) l b)
