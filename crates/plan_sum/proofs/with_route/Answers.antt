-- `plan_sum::with_route` meets its contract.
use mathlib.Core.Path.{refl, sym, ap, ◌∙◌}
use Rattle.plan_sum.specs.declared.Ground.{Ground}
use Rattle.plan_sum.proofs.Found.{route-is, plain-is}
use Rattle.plan_sum.proofs.Steps.{totalled-plain, totalled-other}
use Rattle.plan_sum.proofs.with_route.Goals as goal

pub returns-then-is_plain : goal.returns-then-is_plain
returns-then-is_plain c = λ t x w j k ch h q z.
    let o = c.with_plain.ensures in
    totalled-plain t x j (route-is j k h ch.route) (sym (plain-is _ k (c.is_plain.ensures t w ch.ground k.scene q)) ∙ c.if-is_plain.true) (k.scene.gains ∙ sym (ap (λ (y : Ground). y.gains) ch.ground)) z o.0 o.1 o.2

pub returns : goal.returns
returns c = λ t x w j k ch h q z. totalled-other t x j (route-is j k h ch.route) (sym (plain-is _ k (c.is_plain.ensures t w ch.ground k.scene q)) ∙ c.if-is_plain.false) z refl refl refl
