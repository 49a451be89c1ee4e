use Rattle.std.proofs.Common.{arith}
use Rattle.trace_lines_answer.proofs.absent.fields.Goals as goal

pub loop-p-smaller : goal.loop-p-smaller
loop-p-smaller c =
    let on = c.next-p.ensures.onward c.loop-p-test.true in
    let in-line = c.next-p.ensures.within in
    omega arith
