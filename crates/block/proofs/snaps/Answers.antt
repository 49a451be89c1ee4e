-- `block::snaps` meets its contract.
use borrow.Author.Tests.{ne_eqb}
use Rattle.block.proofs.Steps.{snap-first}
use Rattle.block.proofs.snaps.Goals as goal

pub returns-then-i-eq0 : goal.returns-then-i-eq0
returns-then-i-eq0 c = snap-first c.args.i c.args.fresh c.if-i-eq0.true

pub returns : goal.returns
returns c = rw (ne_eqb c.args.i 0 c.if-i-eq0.false)
