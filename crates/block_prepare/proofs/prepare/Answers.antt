-- `block_prepare::prepare` meets its contract.
use mathlib.Core.Path.{refl, sym, ap, ◌∙◌}
use native.Mathlib.Omega.{arith}
use Rattle.block_prepare.specs.declared.Course.{Course}
use Rattle.block_prepare.proofs.Courses.{goes-is}
use borrow.Author.Rules.{rules}
use Rattle.block_prepare.proofs.prepare.Goals as goal

pub lead_routes-requires : goal.lead_routes-requires
lead_routes-requires c =
    let b = c.requires.3 in (
      omega (arith, c.requires.0),
      record {
        routes = omega (arith, c.at_most-n.ensures);
        starts = b.starts;
        steps = b.steps;
        gains = b.gains;
        offsets = search rules;
        none = λ i h. b.none i;
      },
    )

pub sheet-on-requires : goal.sheet-on-requires
sheet-on-requires c =
    let p = c.requires in
    let l = c.lead_routes.ensures in
    (omega (arith, c.at_most-plans.ensures), p.1, p.2, l.steps, l.offsets)

pub returns : goal.returns
returns c =
    let a = c.args in
    let made = c.course_of.ensures in
    let sheet = c.sheet-on in
    λ h.
    goes-is a.state a.up_to a.signals a.globals.now a.bases.now a.samples.now _ _ _ _ _ _ _ _ sheet.result _ _ c.requires.0 c.field_of-field.ensures refl c.lead_routes.ensures c.at_most-plans.ensures (sheet.ensures (sym (ap (λ (i : Course). i.on) made) ∙ h)) made
