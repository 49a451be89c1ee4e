-- `matrix::replace_finite` meets its contract: row 5, then row 6.
use mathlib.Core.Path.{sym, ◌∙◌}
use mathlib.Core.List.{[], ◌∷◌}
use Rattle.std.proofs.lemmas.Result.{err_from_is_err_and}
use Rattle.refusal.proofs.Laws.{judged-refused, judged-then}
use Rattle.slots_tables.specs.Rows.{finite_row}
use Rattle.matrix.specs.Edits.{slot_row}
use Rattle.matrix.proofs.Laws.{answered-code, answered-is, edited-refused, edited-accepted}
use Rattle.matrix.proofs.replace_finite.Goals as goal

pub returns-in_err-next : goal.returns-in_err-next
returns-in_err-next c =
    let a = c.args in
    let p = err_from_is_err_and c.from_residual.result c.from_residual.ensures.1 in
    let e = answered-code _ _ _ _ _ c.in_err-next.ensures in
    rw (p.1, p.2) (edited-refused _ _ a.matrix _ (sym (judged-refused (slot_row a.n ∷ []) (finite_row a.finite ∷ []) _ tt e)))

pub returns-in_err-when : goal.returns-in_err-when
returns-in_err-when c =
    let a = c.args in
    let r = c.from_residual-in_err-when in
    let p = err_from_is_err_and r.result r.ensures.1 in
    let z = answered-code _ _ _ _ _ c.in_ok-next.ensures in
    rw (p.1, p.2) (edited-refused _ _ a.matrix _ (c.in_err-when.ensures ∙ sym (judged-then (slot_row a.n ∷ []) (finite_row a.finite ∷ []) tt z)))

pub returns : goal.returns
returns c =
    let a = c.args in
    let z = answered-code _ _ _ _ _ c.in_ok-next.ensures in
    let next = answered-is _ _ _ _ c.in_ok-next.ensures in
    rw next (edited-accepted _ a.matrix _ (c.in_ok-when.ensures ∙ sym (judged-then (slot_row a.n ∷ []) (finite_row a.finite ∷ []) tt z)))
