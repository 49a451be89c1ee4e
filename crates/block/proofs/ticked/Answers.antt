-- `block::ticked` meets its contract.
use borrow.Author.Tests.{not-true, not-false}
use Rattle.model.specs.States.{with_primed}
use Rattle.block.proofs.Steps.{keeps_self, ticked-not, ticked-is, primed-keeps}
use Rattle.block.proofs.ticked.Goals as goal

pub returns-then-not-chunk : goal.returns-then-not-chunk
returns-then-not-chunk c =
    let a = c.args in
    (λ b. ticked-not a.state a.chunk a.snap a.signals a.samples.now a.held.now a.globals.now a.bases.now a.values.now b a.tables.now (not-true _ c.if-not-chunk.true), keeps_self a.state)

pub returns : goal.returns
unfolding with_primed
returns c =
    let a = c.args in
    (λ b. ticked-is a.state a.chunk a.snap a.signals a.samples.now a.held.now a.globals.now a.bases.now a.values.now b a.tables.now (not-false _ c.if-not-chunk.false) _ c.tick_values.ensures, primed-keeps a.state)
