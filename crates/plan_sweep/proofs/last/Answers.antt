-- `plan_sweep::last` meets its contract.
use mathlib.Core.Path.{refl}
use Rattle.plan_sweep.proofs.Fours.{last-is, last-not}
use Rattle.plan_sweep.proofs.last.Goals as goal

pub returns-then-n-count : goal.returns-then-n-count
returns-then-n-count c = last-is _ _ _ _ c.if-n-count.true refl

pub returns : goal.returns
returns c = last-not _ _ _ _ c.if-n-count.false refl
