use mathlib.Core.Path.{refl, sym, ◌∙◌}
use native.Mathlib.Omega.{arith}
use borrow.Author.Rules.{rules}
use Rattle.matrix_editing.proofs.Laws.{used-here, used-later, used-past}
use Rattle.matrix_editing.proofs.in_use.Goals as goal

pub loop-s-init : goal.loop-s-init
loop-s-init c = (search rules, refl)

pub returns-then-picks_source : goal.returns-then-picks_source
returns-then-picks_source c =
    let l = c.loop-s in
    let a = c.args in
    sym (l.invariant.1 ∙ used-here a.source a.slot l.s-index _ (omega arith) (sym c.picks_source.ensures ∙ c.if-picks_source.true))

pub loop-s-preserved : goal.loop-s-preserved
loop-s-preserved c =
    let l = c.loop-s in
    let a = c.args in
    (l.invariant.0, l.invariant.1 ∙ used-later a.source a.slot l.s-index _ (omega arith) (sym c.picks_source.ensures ∙ c.if-picks_source.false))

pub returns : goal.returns
returns c =
    let l = c.loop-s in
    let a = c.args in
    sym (l.invariant.1 ∙ used-past a.source a.slot l.s-index (omega arith))
