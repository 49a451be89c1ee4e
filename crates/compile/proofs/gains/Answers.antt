use mathlib.Core.Path.{refl, ◌∙◌}
use native.Mathlib.Omega.{arith}
use borrow.Author.Rules.{rules}
use Rattle.list.proofs.Filled.{filled_none, filled_more, filled-all}
use Rattle.state.specs.declared.Slot.{Slot}
use Rattle.model.specs.Routes.{no_slot}
use Rattle.compile.proofs.Mapped.{fill-map}
use Rattle.compile.proofs.gains.Goals as goal

pub loop-n-init : goal.loop-n-init
loop-n-init c = (search rules, search rules, search rules, search rules, filled_none _ _, filled_none _ _)

pub loop-n-preserved : goal.loop-n-preserved
loop-n-preserved c =
    let l = c.loop-n in
    (search rules, l.invariant.1, l.invariant.2, l.invariant.3, filled_more l.invariant.4 refl, filled_more l.invariant.5 refl)

pub returns : goal.returns
returns c =
    let a = c.args in
    let l = c.loop-n in
    rw (
      filled-all l.invariant.4 (omega arith) ∙ fill-map (λ (s : Slot). s.amount) a.slot no_slot _ (omega arith),
      filled-all l.invariant.5 (omega arith) ∙ fill-map (λ (s : Slot). s.output) a.slot no_slot _ (omega arith),
    )
