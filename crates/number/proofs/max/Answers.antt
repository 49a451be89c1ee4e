-- `number::max` meets its contract.
use Rattle.std.proofs.Common.{sym, ◌∙◌}
use Rattle.number.specs.Number.{max32}
use Rattle.number.proofs.Laws.{differs}
use Rattle.number.proofs.max.Goals as goal

pub returns-then-a : goal.returns-then-a
unfolding max32
returns-then-a c = simp (sym (differs _) ∙ c.if-a.true)

pub returns-then-a-b : goal.returns-then-a-b
unfolding max32
returns-then-a-b c = simp (sym (differs _) ∙ c.if-a.false, c.if-a-b.true)

pub returns-else-a-b : goal.returns-else-a-b
unfolding max32
returns-else-a-b c = simp (sym (differs _) ∙ c.if-a.false, c.if-a-b.false)
