-- `matrix::limit_depth` meets its contract.
use mathlib.Core.Path.{sym, ◌∙◌}
use Rattle.std.proofs.lemmas.Result.{err_from_is_err_and}
use Rattle.matrix.proofs.Laws.{finite-refused, finite-accepted, depth-refused, depth-made}
use Rattle.matrix.proofs.limit_depth.Goals as goal

pub returns-in_err-when : goal.returns-in_err-when
returns-in_err-when c =
    let p = err_from_is_err_and c.from_residual.result c.from_residual.ensures.1 in
    let no = finite-refused _ _ c.in_err-when.ensures in
    rw (p.1, p.2, no.1) (depth-refused _ _ _ (sym c.both_finite.ensures ∙ no.0))

pub returns : goal.returns
returns c = depth-made _ _ _ _ (sym c.both_finite.ensures ∙ finite-accepted _ c.in_ok-when.ensures) c.depth_at.ensures
