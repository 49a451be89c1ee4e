-- `lane::aux_moved` meets its contract.
use Rattle.lane.proofs.Values.{aux-moved, aux-kept}
use Rattle.lane.proofs.aux_moved.Goals as goal

pub returns-then-slews : goal.returns-then-slews
returns-then-slews c = λ t x f s j v d m e. let a = c.args in aux-moved t x f s j a.lane a.route a.input c.slews.ensures m c.if-slews.true (c.aux_in.ensures t f s j v d e)

pub returns : goal.returns
returns c = λ t x f s j v d m e. let a = c.args in aux-kept t x f s j a.lane a.route a.input c.slews.ensures m c.if-slews.false (c.own_kept.ensures s j v.own)
