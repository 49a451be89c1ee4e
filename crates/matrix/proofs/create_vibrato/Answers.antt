-- `matrix::create_vibrato` meets its contract.
use mathlib.Core.Path.{◌≡◌, sym, ◌∙◌}
use Rattle.std.proofs.lemmas.Result.{err_from_is_err_and}
use Rattle.matrix.proofs.Laws.{finite-refused, finite-accepted, vibrato-refused, vibrato-none, vibrato-made}
use Rattle.matrix.proofs.Replies.{vibrato-said}
use Rattle.matrix.specs.Answers.{placed_said}
use Rattle.matrix.specs.Routes.{create_vibrato}
use Rattle.matrix.proofs.create_vibrato.Goals as goal

pub returns-in_err-when : goal.returns-in_err-when
returns-in_err-when c =
    let a = c.args in
    let p = err_from_is_err_and c.from_residual.result c.from_residual.ensures.1 in
    let no = finite-refused _ _ c.in_err-when.ensures in
    let refused : placed_said a.matrix c.from_residual.result ≡ create_vibrato a.matrix a.lfos.now a.mod_wheel a.tuning a.amount =
    rw (p.1, p.2, no.1) (vibrato-refused a.matrix a.lfos.now a.mod_wheel a.tuning a.amount (sym c.is_finite.ensures ∙ no.0)) in
    let said = vibrato-said a.matrix a.lfos.now a.mod_wheel a.tuning a.amount _ refused in
    record { value = said.0; reply = said.1 }

pub returns-in-None : goal.returns-in-None
returns-in-None c =
    let a = c.args in
    let ok = sym c.is_finite.ensures ∙ finite-accepted _ c.in_ok-when.ensures in
    let said = vibrato-said a.matrix a.lfos.now a.mod_wheel a.tuning a.amount _
    (vibrato-none a.matrix a.lfos.now a.mod_wheel a.tuning a.amount ok (sym c.in-None.is ∙ c.first_free.ensures)) in
    record { value = said.0; reply = said.1 }

pub returns-in-Some : goal.returns-in-Some
returns-in-Some c =
    let a = c.args in
    let ok = sym c.is_finite.ensures ∙ finite-accepted _ c.in_ok-when.ensures in
    let said = vibrato-said a.matrix a.lfos.now a.mod_wheel a.tuning a.amount _
    (vibrato-made a.matrix a.lfos.now a.mod_wheel a.tuning a.amount _ _ ok (sym c.in-Some.is ∙ c.first_free.ensures) c.vibrato.ensures) in
    record { value = said.0; reply = said.1 }
