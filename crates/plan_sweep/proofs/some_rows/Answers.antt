use mathlib.Core.Path.{sym}
use Prim.Native.Nat.{◌*◌, ◌≤◌, ◌<◌}
use native.Mathlib.Nat.{zero-add, mul-le-mul_right}
use native.Mathlib.Omega.{arith}
use Rattle.list.proofs.Rows.{row_inside}
use Rattle.plan_sweep.proofs.Laws.{sooner, rows_none, rows_more, rows_end}
use borrow.Author.Rules.{rules}
use Rattle.plan_sweep.proofs.some_rows.Goals as goal

pub loop-n-init : goal.loop-n-init
loop-n-init c = let a = c.args in
    (search rules, search rules, rows_none a.over a.starts.now a.steps.now a.gains.now a.samples.now a.pass a.frame 0 _)

pub overflow_mul-at : goal.overflow_mul-at
overflow_mul-at c = let i = c.loop-n in
    let less : i.n ≤ c.args.len = omega arith in
    omega (arith, c.requires.1, mul-le-mul_right c.args.pass.width less)

pub overflow_add-frame : goal.overflow_add-frame
overflow_add-frame c = omega (arith, c.requires.0.frames)

pub some_row-requires : goal.some_row-requires
some_row-requires c = let a = c.args in
    let i = c.loop-n in
    let less : i.n < a.len = omega arith in
    (sooner a.starts.now a.steps.now a.gains.now a.samples.now a.pass (omega arith) c.requires.0, omega (arith, i.invariant.1, c.requires.1, row_inside a.pass.width less))

pub loop-n-preserved : goal.loop-n-preserved
loop-n-preserved c = let a = c.args in
    let i = c.loop-n in
    (omega arith, search rules, rows_more a.over a.starts.now a.steps.now a.gains.now a.samples.now a.pass a.frame 0 _ _ _ i.n _ i.invariant.2 (sym (zero-add (i.n * a.pass.width))) c.some_row.ensures)

pub returns : goal.returns
returns c = let a = c.args in
    let i = c.loop-n in
    rows_end a.over a.starts.now a.steps.now a.gains.now a.samples.now a.pass a.frame 0 _ _ i.n _ i.invariant.2 (omega arith)
