use mathlib.Core.Path.{refl}
use lib.ListN.{length-set}
use native.Mathlib.Omega.{arith}
use Rattle.model.specs.Tick.{lanes_from}
use Rattle.plan_slews.proofs.Lanes.{fill_none, fill_more, fill_end}
use borrow.Author.Rules.{rules}
use Rattle.plan_slews.proofs.put_whole.Goals as goal

pub loop-l-init : goal.loop-l-init
loop-l-init c = (search rules, search rules, fill_none _ _ _)

pub loop-l-preserved : goal.loop-l-preserved
loop-l-preserved c = let i = c.loop-l in (omega arith, simp length-set i.invariant.1, fill_more _ _ _ i.l _ _ _ i.invariant.2 refl refl)

pub returns : goal.returns
returns c = let a = c.args in fill_end a.values.now a.start (lanes_from a.from.now a.at) _ _ _ c.loop-l.invariant.2 (omega arith)
