-- `source::check_standard` meets its contract: its four rows, in their order. Assumes nothing.
use mathlib.Core.Path.{sym, ◌∙◌}
use Rattle.std.proofs.lemmas.Result.{err_from_is_err_and}
use Rattle.refusal.specs.Judge.{judged}
use Rattle.refusal.proofs.Laws.{applies-here, passes-here}
use Rattle.source.proofs.check_standard.Goals as goal

pub any_clash-clash-requires : goal.any_clash-clash-requires
any_clash-clash-requires c = c.fixed_sources.ensures

pub returns-in_err-when : goal.returns-in_err-when
unfolding judged
returns-in_err-when c =
    let p = err_from_is_err_and c.from_residual.result c.from_residual.ensures.1 in
    let row = applies-here c.any_clash-clash.result 9 _ c.in_err-when.ensures in
    rw (p.1, p.2, row.1) (simp (sym c.any_clash-clash.ensures ∙ row.0))

pub returns-in_err-when-2 : goal.returns-in_err-when-2
unfolding judged
returns-in_err-when-2 c =
    let e = c.from_residual-in_err-when-2 in
    let p = err_from_is_err_and e.result e.ensures.1 in
    let clash = sym c.any_clash-clash.ensures ∙ passes-here c.any_clash-clash.result 9 tt c.in_ok-when.ensures in
    let row = applies-here c.too_many.result 12 _ c.in_err-when-2.ensures in
    rw (p.1, p.2, row.1) (simp (clash, sym c.too_many.ensures ∙ row.0))

pub returns-in_err-when-3 : goal.returns-in_err-when-3
unfolding judged
returns-in_err-when-3 c =
    let e = c.from_residual-in_err-when-3 in
    let p = err_from_is_err_and e.result e.ensures.1 in
    let clash = sym c.any_clash-clash.ensures ∙ passes-here c.any_clash-clash.result 9 tt c.in_ok-when.ensures in
    let many = sym c.too_many.ensures ∙ passes-here c.too_many.result 12 tt c.in_ok-when-2.ensures in
    let row = applies-here c.adds_up_above.result 14 _ c.in_err-when-3.ensures in
    rw (p.1, p.2, row.1) (simp (clash, many, sym c.adds_up_above.ensures ∙ row.0))

pub returns : goal.returns
unfolding judged
returns c =
    let clash = sym c.any_clash-clash.ensures ∙ passes-here c.any_clash-clash.result 9 tt c.in_ok-when.ensures in
    let many = sym c.too_many.ensures ∙ passes-here c.too_many.result 12 tt c.in_ok-when-2.ensures in
    let past = sym c.adds_up_above.ensures ∙ passes-here c.adds_up_above.result 14 tt c.in_ok-when-3.ensures in
    c.when-4.ensures ∙ rw c.any_long.ensures (simp (clash, many, past))
