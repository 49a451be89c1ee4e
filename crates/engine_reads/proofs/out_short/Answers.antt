-- `engine_reads::out_short` meets its contract.
use Rattle.engine_reads.proofs.Latests.{room-is, no_room}
use Rattle.engine_reads.proofs.out_short.Goals as goal

pub returns-then-dests-eq0 : goal.returns-then-dests-eq0
returns-then-dests-eq0 c =
    let a = c.args in
    no_room a.len a.n a.dests c.if-dests-eq0.true

pub returns : goal.returns
returns c =
    let a = c.args in
    room-is a.len a.n a.dests c.if-dests-eq0.false
