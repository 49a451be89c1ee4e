-- `block::run` meets its contract.
use Rattle.block.proofs.Blocks.{run_none, run-some}
use Rattle.block.proofs.Rests.{routed-small}
use Rattle.block.proofs.run.Goals as goal

pub returns-then-program-eq0 : goal.returns-then-program-eq0
returns-then-program-eq0 c =
    let a = c.args in
    run_none a.samples.now a.signals a.start a.end _ c.if-program-eq0.true _ (c.routeless.ensures _ _ _ _ _)

pub returns : goal.returns
returns c =
    let a = c.args in
    run-some a.samples.now a.signals a.start a.end _ c.if-program-eq0.false _ (routed-small a.samples.now a.signals a.start a.end a.state c.routed-next.result _ _ _ _ _ _ _ _ _ _ _ c.small_of.ensures c.routed-next.ensures)
