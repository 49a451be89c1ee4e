use borrow.Author.Rules.{rules}
use mathlib.Core.Path.{◌≡◌}
use native.Mathlib.Omega.{arith}
use lib.ListN.{length}
use Rattle.plan_sum.proofs.Lanes.{laned-none, laned-more}
use Rattle.plan_sum.proofs.same_lanes.Goals as goal

pub loop-l-init : goal.loop-l-init
loop-l-init c = (omega arith, search rules, laned-none _ _)

pub loop-l-preserved : goal.loop-l-preserved
loop-l-preserved c = let i = c.loop-l in
    let long : length c.args.row ≡ 64 = search (rules, c.well_formed.1.1.0) in
    (omega arith, i.invariant.1, laned-more i.invariant.2 (omega arith) c.add_same.ensures)

pub returns : goal.returns
returns c = λ l h. c.loop-l.invariant.2.done l (omega (arith, h))
