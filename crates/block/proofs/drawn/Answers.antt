-- `block::drawn` meets its contract.
use borrow.Author.Tests.{not-true, not-false}
use Rattle.model.specs.States.{with_draw}
use Rattle.block.proofs.Steps.{keeps_self}
use Rattle.block.proofs.Blocks.{drawn-not, drawn-is, drawn-keeps}
use Rattle.block.proofs.drawn.Goals as goal

pub returns-then-not-marks : goal.returns-then-not-marks
returns-then-not-marks c =
    let a = c.args in
    (λ h g d b t. drawn-not a.state h g d a.values.now b t (not-true _ c.if-not-marks.true), keeps_self a.state)

pub returns : goal.returns
unfolding with_draw
returns c =
    let a = c.args in
    (λ h g d b t. drawn-is a.state h g d a.values.now b t (not-false _ c.if-not-marks.false) _ _ c.drawn_after-draw.ensures, drawn-keeps a.state c.drawn_after-draw.result)
