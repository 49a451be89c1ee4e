-- `lane::source_after` meets its contract.
use Rattle.lane.proofs.Values.{source-moved, source-kept}
use Rattle.lane.proofs.source_after.Goals as goal

pub returns-then-slews : goal.returns-then-slews
returns-then-slews c = λ t x f s j v q m e. source-moved t x f s j c.args.lane q c.slews.ensures m c.if-slews.true (c.source_in.ensures t f s j v e)

pub returns : goal.returns
returns c = λ t x f s j v q m e. source-kept t x f s j c.args.lane q c.slews.ensures m c.if-slews.false (c.own_kept.ensures s j v.own)
