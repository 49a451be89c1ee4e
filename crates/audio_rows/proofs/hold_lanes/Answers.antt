use borrow.Author.Rules.{rules}
use mathlib.Core.Path.{◌≡◌}
use native.Mathlib.Omega.{arith}
use lib.ListN.{length}
use Rattle.plan_sum.proofs.Lanes.{laned-none, laned-more}
use Rattle.audio_rows.proofs.hold_lanes.Goals as goal

pub loop-l-init : goal.loop-l-init
loop-l-init c = (omega arith, laned-none _ _)

pub loop-l-preserved : goal.loop-l-preserved
loop-l-preserved c = let l = c.loop-l in
    let a = c.args in
    let long : length a.row ≡ 64 = search (rules, c.well_formed.1.1.0) in
    (omega arith, laned-more l.invariant.1 (omega (arith, c.lane_count-n.ensures.1)) c.hold_lane.ensures)

pub returns : goal.returns
returns c = λ t sc l h. c.loop-l.invariant.1.done l (omega (arith, c.lane_count-n.ensures.0, h)) t sc
