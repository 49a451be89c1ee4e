-- `curve_table::check_table` meets its contract: its two rows, in their order.
use mathlib.Core.Path.{sym, ap, ◌∙◌}
use mathlib.Core.Bool.{not}
use Rattle.std.proofs.lemmas.Result.{err_from_is_err_and}
use Rattle.refusal.specs.Judge.{judged}
use Rattle.refusal.proofs.Laws.{applies-here, passes-here}
use Rattle.curve_table.specs.Table.{table_code}
use Rattle.curve_table.proofs.check_table.Goals as goal

pub returns-in_err-when : goal.returns-in_err-when
unfolding table_code judged
returns-in_err-when c =
    let p = err_from_is_err_and c.from_residual.result c.from_residual.ensures.1 in
    let row = applies-here (not c.numbers_allowed.result) 6 _ c.in_err-when.ensures in
    rw (p.1, p.2, row.1) (simp (ap not (sym c.numbers_allowed.ensures) ∙ row.0))

pub returns : goal.returns
unfolding table_code judged
returns c =
    let row = ap not (sym c.numbers_allowed.ensures) ∙ passes-here (not c.numbers_allowed.result) 6 tt c.in_ok-when.ensures in
    c.when-2.ensures ∙ simp row
