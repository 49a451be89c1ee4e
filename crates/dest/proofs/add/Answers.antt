-- `dest::add` meets its contract.
use mathlib.Core.Path.{sym}
use native.Mathlib.Omega.{arith}
use Rattle.std.proofs.lemmas.Result.{err_from_is_err_and}
use Rattle.dest.specs.Adding.{appended}
use Rattle.dest.proofs.Adding.{accepted, add-accepted, add-refused-by}
use Rattle.dest.proofs.add.Goals as goal

pub returns-in_err-check : goal.returns-in_err-check
returns-in_err-check c =
    let p = err_from_is_err_and c.from_residual.result c.from_residual.ensures.1 in
    rw (p.1, p.2) (sym (add-refused-by _ _ _ c.in_err-check.ensures))

pub bounds-next-id : goal.bounds-next-id
bounds-next-id c =
    let a = accepted _ _ (sym c.in_ok-check.ensures) in
    omega (arith, a.room)

pub returns : goal.returns
unfolding appended
returns c = rw c.len-id.ensures (sym (add-accepted _ _ (sym c.in_ok-check.ensures)))
