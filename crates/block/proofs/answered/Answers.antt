-- `block::answered` meets its contract.
use mathlib.Core.Path.{sym, ◌∙◌}
use Rattle.refusal.proofs.Laws.{err-taken, ok-none}
use Rattle.block.proofs.Blocks.{answered-refused, answered-empty, answered-run}
use Rattle.block.proofs.Rests.{same-small}
use Rattle.block.proofs.answered.Goals as goal

pub returns-then-is_err : goal.returns-then-is_err
returns-then-is_err c =
    let a = c.args in
    same-small a.state _ _ _ _ _ _ _ _ c.small_of.ensures (answered-refused a.samples.now a.signals a.start a.end _ _ (err-taken a.judged (sym c.is_err.ensures.value ∙ c.if-is_err.true)))

pub returns-then-end-start : goal.returns-then-end-start
returns-then-end-start c =
    let a = c.args in
    same-small a.state _ _ _ _ _ _ _ _ c.small_of-then-end-start.ensures (answered-empty a.samples.now a.signals a.start a.end _ _ (ok-none a.judged (sym c.is_err.ensures.value ∙ c.if-is_err.false)) c.if-end-start.true)

pub run-requires : goal.run-requires
run-requires c =
    let p = c.requires (ok-none c.args.judged (sym c.is_err.ensures.value ∙ c.if-is_err.false)) in
    (p.0, p.1, c.if-end-start.false, p.2)

pub returns : goal.returns
returns c =
    let a = c.args in
    answered-run a.samples.now a.signals a.start a.end _ _ (ok-none a.judged (sym c.is_err.ensures.value ∙ c.if-is_err.false)) c.if-end-start.false _ c.run.ensures
