-- `curve::slew` meets its contract.
use mathlib.Core.Path.{sym}
use Rattle.std.proofs.lemmas.Result.{err_from_is_err_and}
use Rattle.curve.proofs.Laws.{slew-accepted, slew-refused-by}
use Rattle.curve.proofs.slew.Goals as goal

pub returns-in_err-check_curve : goal.returns-in_err-check_curve
returns-in_err-check_curve c =
    let p = err_from_is_err_and c.from_residual.result c.from_residual.ensures.1 in
    rw (p.1, p.2) (sym (slew-refused-by c.args.curve _ c.in_err-check_curve.ensures))

pub returns : goal.returns
returns c = rw (c.seconds_of.ensures, slew-accepted c.args.curve (sym c.in_ok-check_curve.ensures))
