use mathlib.Core.Path.{refl}
use native.Mathlib.Omega.{arith}
use lib.ListN.{length-set}
use Rattle.plan_slews.proofs.Lanes.{fill_none, fill_end}
use Rattle.plan_turning.proofs.Rows.{lower-more}
use borrow.Author.Rules.{rules}
use Rattle.plan_turning.proofs.lower.Goals as goal

pub loop-l-init : goal.loop-l-init
loop-l-init c = (search rules, search rules, fill_none _ _ _)

pub loop-l-preserved : goal.loop-l-preserved
loop-l-preserved c =
    let i = c.loop-l in (omega arith, simp length-set i.invariant.1, lower-more _ _ _ _ _ i.l (omega arith) i.invariant.2 refl)

pub returns : goal.returns
returns c = fill_end _ _ _ _ _ _ c.loop-l.invariant.2 (omega arith)
