-- `source::add` meets its contract: refused by a row, or accepted since none applies. Assumes nothing.
use mathlib.Core.Path.{sym}
use Rattle.std.proofs.lemmas.Result.{err_from_is_err_and}
use Rattle.source.proofs.Adding.{addable, add-refuses-by, add-accepts}
use Rattle.source.proofs.add.Goals as goal

pub returns-in_err-check_key : goal.returns-in_err-check_key
returns-in_err-check_key c =
    let a = c.args in
    let p = err_from_is_err_and c.from_residual.result c.from_residual.ensures.1 in
    rw (p.1, p.2) (sym (add-refuses-by a.sources a.key.now a.kind a.scope a.range _ c.in_err-check_key.ensures))

pub new_entry-source-requires : goal.new_entry-source-requires
new_entry-source-requires c = (addable _ _ (sym c.in_ok-check_key.ensures)).short

pub with_entry-requires : goal.with_entry-requires
with_entry-requires c = (addable _ _ (sym c.in_ok-check_key.ensures)).room

pub returns : goal.returns
returns c =
    let a = c.args in
    rw (c.with_entry.ensures, c.len.ensures, c.new_entry-source.ensures)
    (sym (add-accepts a.sources a.key.now a.kind a.scope a.range (sym c.in_ok-check_key.ensures)))
