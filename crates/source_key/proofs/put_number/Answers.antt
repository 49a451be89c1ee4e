-- `source_key::put_number` meets its contract.
use Rattle.source_key.proofs.Laws.{wrote_one, wrote-two, wrote-three}
use Rattle.source_key.proofs.put_number.Goals as goal

pub returns-then-n-lt10 : goal.returns-then-n-lt10
returns-then-n-lt10 c = wrote_one _ _ _ _ c.if-n-lt10.true c.digit.ensures c.put.ensures

pub returns-then-n-lt100 : goal.returns-then-n-lt100
returns-then-n-lt100 c = wrote-two _ _ _ _ _ _ c.if-n-lt10.false c.if-n-lt100.true c.digit-then-n-lt100.ensures c.put-then-n-lt100.ensures c.digit-then-n-lt100-2.ensures c.put-then-n-lt100-2.ensures

pub returns : goal.returns
returns c = wrote-three _ _ _ _ _ _ _ _ c.if-n-lt10.false c.if-n-lt100.false c.digit-2.ensures c.put-hundreds.ensures c.digit-3.ensures c.put-2.ensures c.digit-4.ensures c.put-3.ensures
