-- `matrix::with_curve` meets its contract.
use mathlib.Core.Path.{sym, ap, ◌∙◌}
use Rattle.matrix.specs.declared.CurveSlot.{CurveSlot}
use Rattle.matrix.specs.Which.{with_curve}
use Rattle.matrix.proofs.with_curve.Goals as goal

pub returns-in-Source : goal.returns-in-Source
returns-in-Source c =
    let a = c.args in
    c.with_source_curve.ensures ∙ sym (ap (λ (w : CurveSlot). with_curve w a.curve a.slot) c.in-Source.is)

pub returns-in-Aux : goal.returns-in-Aux
returns-in-Aux c =
    let a = c.args in
    c.with_aux_curve.ensures ∙ sym (ap (λ (w : CurveSlot). with_curve w a.curve a.slot) c.in-Aux.is)
