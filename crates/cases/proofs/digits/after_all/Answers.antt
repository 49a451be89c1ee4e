use Rattle.std.proofs.Common.{sym, ◌∙◌, arith}
use Rattle.cases.proofs.Laws.{all_from, all_past}
use Rattle.cases.proofs.digits.after_all.Goals as goal

pub loop-b-preserved : goal.loop-b-preserved
loop-b-preserved c =
    let l = c.loop-b in
    l.invariant ∙ all_from l.s c.args.bytes.now l.b-index c.loop-b-test.true ∙ rw c.after-s.ensures

pub returns : goal.returns
returns c =
    let l = c.loop-b in
    sym (l.invariant ∙ all_past l.s c.args.bytes.now l.b-index (omega arith))
