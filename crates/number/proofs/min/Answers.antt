-- `number::min` meets its contract.
use Rattle.std.proofs.Common.{sym, ◌∙◌}
use Rattle.number.specs.Number.{min32}
use Rattle.number.proofs.Laws.{differs}
use Rattle.number.proofs.min.Goals as goal

pub returns-then-a : goal.returns-then-a
unfolding min32
returns-then-a c = simp (sym (differs _) ∙ c.if-a.true)

pub returns-then-b-a : goal.returns-then-b-a
unfolding min32
returns-then-b-a c = simp (sym (differs _) ∙ c.if-a.false, c.if-b-a.true)

pub returns-else-b-a : goal.returns-else-b-a
unfolding min32
returns-else-b-a c = simp (sym (differs _) ∙ c.if-a.false, c.if-b-a.false)
