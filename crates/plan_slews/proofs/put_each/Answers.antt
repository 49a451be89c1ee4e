use borrow.Author.Rules.{rules}
use mathlib.Core.Path.{ap, ◌∙◌}
use lib.ListN.{length, length-set}
use native.Mathlib.Omega.{arith}
use Rattle.model.specs.Tick.{lanes_from}
use Rattle.plan_slews.proofs.Lanes.{fill_none, fill_more, fill_end}
use Rattle.plan_slews.proofs.put_each.Goals as goal

pub loop-l-init : goal.loop-l-init
loop-l-init c = (search rules, search rules, fill_none _ _ _)

pub loop-l-preserved : goal.loop-l-preserved
loop-l-preserved c =
    let l = c.loop-l in
    let a = c.args in (
      omega arith,
      ap length c.put_lane.ensures ∙ simp length-set l.invariant.1,
      fill_more a.values.now a.start (lanes_from a.from.now a.at) l.l _ _ _ l.invariant.2 c.lane_from.ensures c.put_lane.ensures,
    )

pub returns : goal.returns
returns c =
    let a = c.args in
    fill_end a.values.now a.start (lanes_from a.from.now a.at) _ _ _ c.loop-l.invariant.2 (omega arith)
