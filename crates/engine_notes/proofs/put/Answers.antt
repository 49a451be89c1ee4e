-- `engine_notes::put` meets its contract.
use Rattle.engine_notes.proofs.Steps.{set_past}
use Rattle.engine_notes.proofs.put.Goals as goal

pub returns-then-not-on : goal.returns-then-not-on
returns-then-not-on c = simp (c.if-not-on.true)

pub returns-then-held-i : goal.returns-then-held-i
returns-then-held-i c = simp (c.if-not-on.false, set_past c.args.held.now c.args.i c.args.x c.if-held-i.true)

pub returns : goal.returns
returns c = simp (c.if-not-on.false)
