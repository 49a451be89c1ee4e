-- `number::clamp` meets its contract.
use Rattle.number.specs.Number.{clamp_to}
use Rattle.number.proofs.clamp.Goals as goal

pub returns-then-x-lo : goal.returns-then-x-lo
unfolding clamp_to
returns-then-x-lo c = simp c.if-x-lo.true

pub returns-then-hi-x : goal.returns-then-hi-x
unfolding clamp_to
returns-then-hi-x c = simp (c.if-x-lo.false, c.if-hi-x.true)

pub returns-else-hi-x : goal.returns-else-hi-x
unfolding clamp_to
returns-else-hi-x c = simp (c.if-x-lo.false, c.if-hi-x.false)
