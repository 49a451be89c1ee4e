-- `slots_tables::check_table` meets its contract: its three rows, in their order.
use mathlib.Core.Path.{sym, ◌∙◌}
use mathlib.Core.List.{[], ◌∷◌}
use lib.Dec.{ltb}
use Rattle.std.proofs.lemmas.Result.{err_from_is_err_and}
use Rattle.refusal.specs.Judge.{◌when◌}
use Rattle.refusal.proofs.Laws.{judged-refused, judged-then}
use Rattle.slots_tables.specs.Tables.{tables_need}
use Rattle.slots_tables.specs.Rows.{finite_row}
use Rattle.slots_tables.proofs.check_table.Goals as goal

pub returns-in_err-when : goal.returns-in_err-when
returns-in_err-when c =
    let p = err_from_is_err_and c.from_residual.result c.from_residual.ensures.1 in
    rw (p.1, p.2) (sym (judged-refused (finite_row c.args.allowed ∷ []) _ c.in_err-when.field-0.0 tt c.in_err-when.ensures))

pub returns-in_err-when-2 : goal.returns-in_err-when-2
returns-in_err-when-2 c =
    let a = c.args in
    let r = c.from_residual-in_err-when-2 in
    let p = err_from_is_err_and r.result r.ensures.1 in
    let short = 14 when ltb a.tables tables_need in
    rw (p.1, p.2)
    (sym (judged-then (finite_row a.allowed ∷ []) (short ∷ _) tt c.in_ok-when.ensures
    ∙ judged-refused (short ∷ []) _ c.in_err-when-2.field-0.0 tt c.in_err-when-2.ensures))

pub returns : goal.returns
returns c =
    let a = c.args in
    c.when-3.ensures
    ∙ sym (judged-then (finite_row a.allowed ∷ []) _ tt c.in_ok-when.ensures
    ∙ judged-then (14 when ltb a.tables tables_need ∷ []) _ tt c.in_ok-when-2.ensures)
