-- `curve::lookup` meets its contract.
use mathlib.Core.Path.{sym}
use native.Mathlib.Omega.{arith}
use Rattle.std.proofs.lemmas.Result.{err_from_is_err_and}
use Rattle.curve_table.proofs.Laws.{accepted-length}
use Rattle.curve.proofs.Laws.{lookup-accepted, lookup-refused-by}
use Rattle.curve.proofs.lookup.Goals as goal

pub returns-in_err-check_table : goal.returns-in_err-check_table
returns-in_err-check_table c =
    let a = c.args in
    let p = err_from_is_err_and c.from_residual.result c.from_residual.ensures.1 in
    rw (p.1, p.2) (sym (lookup-refused-by a.table.now a.x _ c.in_err-check_table.ensures))

pub lookup-requires : goal.lookup-requires
lookup-requires c = omega (arith, accepted-length c.args.table.now (sym c.in_ok-check_table.ensures))

pub returns : goal.returns
returns c =
    let a = c.args in
    rw (c.lookup.ensures, lookup-accepted a.table.now a.x (sym c.in_ok-check_table.ensures))
