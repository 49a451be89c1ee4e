-- `lane::row_whole` meets its contract.
use native.Mathlib.Omega.{arith}
use borrow.Author.Tests.{lt-ltb, le-ltb, lt-leb, le-leb}
use Rattle.lane.proofs.row_whole.Goals as goal

pub returns-then-len-eq0 : goal.returns-then-len-eq0
returns-then-len-eq0 c = rw (le-ltb 0 c.args.part.len (omega arith))

pub returns-then-wide-stride : goal.returns-then-wide-stride
returns-then-wide-stride c = let a = c.args in
    let p = c.part_stride-wide in
    rw (lt-ltb 0 a.part.len (omega arith), ← p.ensures.0, lt-leb a.stride p.result c.if-wide-stride.true)

pub returns : goal.returns
returns c = let a = c.args in
    let p = c.part_stride-wide in
    rw (lt-ltb 0 a.part.len (omega arith), ← p.ensures.0, le-leb a.stride p.result c.if-wide-stride.false) c.rows_within.ensures
