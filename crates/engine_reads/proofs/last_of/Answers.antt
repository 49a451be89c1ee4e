-- `engine_reads::last_of` meets its contract.
use Rattle.engine_reads.proofs.Latests.{last_none, last_some}
use Rattle.engine_reads.proofs.last_of.Goals as goal

pub returns-then-chunks-eq0 : goal.returns-then-chunks-eq0
returns-then-chunks-eq0 c =
    let a = c.args in
    last_none a.block c.total-chunks.ensures c.last_frame-frame.ensures c.if-chunks-eq0.true

pub returns : goal.returns
returns c =
    let a = c.args in
    last_some a.block c.total-chunks.ensures c.last_frame-frame.ensures c.if-chunks-eq0.false
