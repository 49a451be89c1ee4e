use mathlib.Core.Path.{refl}
use Prim.Native.Nat.{◌<◌}
use lib.ListN.{length}
use native.Mathlib.Omega.{arith}
use Rattle.engine_reads.proofs.Latests.{rows_none, rows_more, rows_all, row_ends}
use Rattle.engine_reads.proofs.write_rows.Goals as goal

pub loop-d-init : goal.loop-d-init
loop-d-init c = (omega arith, rows_none _ _ _ _ _)

pub overflow_mul-a : goal.overflow_mul-a
overflow_mul-a c =
    let a = c.args in
    let l = c.loop-d in
    let t : l.d < a.dests = omega arith in
    let e = row_ends a.n l.d a.dests (length a.out.now) t c.requires in
    omega (arith, e)

pub overflow_add-e : goal.overflow_add-e
overflow_add-e c =
    let a = c.args in
    let l = c.loop-d in
    let t : l.d < a.dests = omega arith in
    let e = row_ends a.n l.d a.dests (length a.out.now) t c.requires in
    omega (arith, e)

pub write_row-requires : goal.write_row-requires
write_row-requires c =
    let a = c.args in
    let l = c.loop-d in
    let t : l.d < a.dests = omega arith in
    let e = row_ends a.n l.d a.dests (length a.out.now) t c.requires in
    (omega arith, omega (arith, e, l.invariant.1.as_long))

pub loop-d-preserved : goal.loop-d-preserved
loop-d-preserved c =
    let a = c.args in
    let l = c.loop-d in
    let t : l.d < a.dests = omega arith in
    let e = row_ends a.n l.d a.dests (length a.out.now) t c.requires in
    (omega arith, rows_more a.state a.values.now a.audio.now a.n l.invariant.1 refl refl e c.write_row.ensures)

pub returns : goal.returns
returns c =
    let a = c.args in
    rows_all a.state a.values.now a.audio.now a.n c.loop-d.invariant.1 (omega arith)
