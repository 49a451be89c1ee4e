-- `lane_input::fed_at` meets its contract.
use borrow.Author.Tests.{lt-ltb, le-ltb}
use Rattle.lane_input.proofs.fed_at.Goals as goal

pub returns-then-stride-l : goal.returns-then-stride-l
returns-then-stride-l c = let o = c.own-l in
    rw (← o.ensures, le-ltb o.result c.args.stride c.if-stride-l.true) c.not_a_number.ensures

pub returns : goal.returns
returns c = let o = c.own-l in
    rw (← o.ensures, lt-ltb o.result c.args.stride c.if-stride-l.false) c.lane_from.ensures
