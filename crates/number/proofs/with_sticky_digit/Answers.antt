-- `number::with_sticky_digit` meets its contract.
use Rattle.std.proofs.Common.{arith, ne_eqb}
use Rattle.number.specs.Number.{sticky}
use Rattle.number.proofs.with_sticky_digit.Goals as goal

pub returns-then-n-eq0 : goal.returns-then-n-eq0
unfolding sticky
returns-then-n-eq0 c = rw c.if-n-eq0.true (omega arith)

pub returns-else-n-eq0 : goal.returns-else-n-eq0
unfolding sticky
returns-else-n-eq0 c = rw (ne_eqb _ _ c.if-n-eq0.false)
