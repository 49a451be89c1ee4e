use mathlib.Core.Path.{refl}
use native.Mathlib.Omega.{arith}
use lib.Ieee.{of_bits}
use Rattle.plan_sweep.proofs.Kept.{offset-none, offset-more, offset-end}
use borrow.Author.Rules.{rules}
use Rattle.plan_sweep.proofs.offset_sum.Goals as goal

pub loop-j-init : goal.loop-j-init
unfolding of_bits
loop-j-init c = (search rules, offset-none _ _)

pub loop-j-preserved : goal.loop-j-preserved
loop-j-preserved c = let i = c.loop-j in (omega arith, offset-more _ _ i.j _ _ i.invariant.1 refl)

pub returns : goal.returns
returns c = let i = c.loop-j in offset-end _ _ i.j _ _ i.invariant.1 (omega arith)
