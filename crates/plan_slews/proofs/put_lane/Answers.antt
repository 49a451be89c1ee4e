-- `plan_slews::put_lane` meets its contract.
use Rattle.plan_slews.proofs.Lanes.{put-start, put_rest}
use Rattle.plan_slews.proofs.put_lane.Goals as goal

pub returns-then-len-start : goal.returns-then-len-start
returns-then-len-start c = let a = c.args in put-start a.values.now a.start a.lane a.x c.if-len-start.true

pub returns-then-len-start-2 : goal.returns-then-len-start-2
returns-then-len-start-2 c = let a = c.args in put_rest a.values.now a.start a.lane a.x c.if-len-start-2.true
