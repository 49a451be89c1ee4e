-- `engine_notes::put_draw` meets its contract.
use Rattle.engine_notes.proofs.put_draw.Goals as goal

pub returns-then-not-on : goal.returns-then-not-on
returns-then-not-on c = simp (c.if-not-on.true)

pub returns : goal.returns
returns c = simp (c.if-not-on.false, c.put.ensures, c.draw.ensures)
