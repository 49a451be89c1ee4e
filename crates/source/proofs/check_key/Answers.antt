-- `source::check_key` meets its contract: its three rows, in their order. Assumes nothing.
use mathlib.Core.Path.{sym, ap, ◌∙◌}
use lib.Dec.{leb}
use Rattle.std.specs.Prelude.{is_some}
use Rattle.std.proofs.lemmas.Result.{err_from_is_err_and}
use Rattle.refusal.specs.Judge.{judged}
use Rattle.refusal.proofs.Laws.{applies-here, passes-here}
use Rattle.config.specs.Sizes.{most_sources}
use Rattle.source.proofs.check_key.Goals as goal

pub returns-in_err-when : goal.returns-in_err-when
unfolding judged
returns-in_err-when c =
    let p = err_from_is_err_and c.from_residual.result c.from_residual.ensures.1 in
    let taken = sym (c.is_some.ensures ∙ ap is_some c.find_key.ensures) in
    let row = applies-here c.is_some.result 9 _ c.in_err-when.ensures in
    rw (p.1, p.2, row.1) (simp (taken ∙ row.0))

pub returns-in_err-when-2 : goal.returns-in_err-when-2
unfolding judged
returns-in_err-when-2 c =
    let e = c.from_residual-in_err-when-2 in
    let p = err_from_is_err_and e.result e.ensures.1 in
    let taken = sym (c.is_some.ensures ∙ ap is_some c.find_key.ensures) ∙ passes-here c.is_some.result 9 tt c.in_ok-when.ensures in
    let row = applies-here (leb most_sources c.len.result) 12 _ c.in_err-when-2.ensures in
    rw (p.1, p.2, row.1) (simp (taken, ap (leb most_sources) (sym c.len.ensures) ∙ row.0))

pub returns : goal.returns
unfolding judged
returns c =
    let taken = sym (c.is_some.ensures ∙ ap is_some c.find_key.ensures) ∙ passes-here c.is_some.result 9 tt c.in_ok-when.ensures in
    let room = ap (leb most_sources) (sym c.len.ensures) ∙ passes-here (leb most_sources c.len.result) 12 tt c.in_ok-when-2.ensures in
    c.when-3.ensures ∙ simp (taken, room)
