-- `matrix::drag` meets its contract.
use mathlib.Core.Path.{◌≡◌}
use Rattle.std.proofs.lemmas.Result.{err_from_is_err_and}
use Rattle.std.specs.Prelude.{Ok}
use Rattle.matrix.proofs.Laws.{placed-refused}
use Rattle.matrix.proofs.Replies.{drag-said}
use Rattle.matrix.specs.Answers.{placed_said}
use Rattle.matrix.specs.Routes.{drag_route}
use Rattle.matrix.proofs.drag.Goals as goal

pub returns-in_err-when : goal.returns-in_err-when
unfolding drag_route
returns-in_err-when c =
    let a = c.args in
    let p = err_from_is_err_and c.from_residual.result c.from_residual.ensures.1 in
    let refused : placed_said a.matrix c.from_residual.result ≡ drag_route a.matrix a.source a.destination a.position a.amount a.toggle a.limit =
    rw (p.1, p.2) (placed-refused _ _ a.matrix _ _ (cc (c.both_finite.ensures, c.in_err-when.ensures))) in
    let said = drag-said a.matrix a.source a.destination a.position a.amount a.toggle a.limit _ refused in
    record { value = said.0; reply = said.1 }

pub returns : goal.returns
unfolding drag_route
returns c =
    let a = c.args in
    let said = drag-said a.matrix a.source a.destination a.position a.amount a.toggle a.limit (placed_said a.matrix (Ok c.place.result))
    (cc (c.both_finite.ensures, c.in_ok-when.ensures, c.polarity_at-polarity.ensures, c.dragged_amount-dragged.ensures, c.kept_amount.ensures, c.route_slot-route.ensures, c.place.ensures)) in
    record { value = said.0; reply = said.1 }
