-- `dest::check` meets its contract: its four rows, in their order.
use mathlib.Core.Path.{sym, ap, ◌∙◌}
use mathlib.Core.Bool.{not}
use mathlib.Core.List.{[], ◌∷◌}
use Prim.Native.Nat.{ℕ}
use borrow.Author.Tests.{not-true, not-false}
use lib.Dec.{leb}
use lib.Ieee.{lt}
use Rattle.std.specs.Prelude.{is_some}
use Rattle.std.proofs.lemmas.Result.{err_from_is_err_and}
use Rattle.refusal.specs.Judge.{◌when◌, judged}
use Rattle.refusal.proofs.Laws.{applies-here, passes-here}
use Rattle.config.specs.Sizes.{most_destinations}
use Rattle.dest.proofs.Adding.{bounds-bad, bounds-good, code-9, code-10, code-11, code-rest}
use Rattle.dest.proofs.check.Goals as goal

pub returns-in_err-when : goal.returns-in_err-when
returns-in_err-when c =
    let p = err_from_is_err_and c.from_residual.result c.from_residual.ensures.1 in
    let row = applies-here c.is_some.result 9 _ c.in_err-when.ensures in
    let a = sym (c.is_some.ensures ∙ ap is_some c.find.ensures.value) ∙ row.0 in
    rw (p.1, p.2, row.1) (sym (code-9 _ _ a))

pub returns-in_err-when-2 : goal.returns-in_err-when-2
returns-in_err-when-2 c =
    let d = c.args.d in
    let from = c.from_residual-in_err-when-2 in
    let p = err_from_is_err_and from.result from.ensures.1 in
    let row = applies-here (not (lt d.min d.max)) 10 _ c.in_err-when-2.ensures in
    let a = sym (c.is_some.ensures ∙ ap is_some c.find.ensures.value) ∙ passes-here c.is_some.result 9 tt c.in_ok-when.ensures in
    rw (p.1, p.2, row.1) (sym (code-10 _ _ a (bounds-bad _ _ (not-true _ row.0))))

pub returns-in_err-when-3 : goal.returns-in_err-when-3
returns-in_err-when-3 c =
    let d = c.args.d in
    let from = c.from_residual-in_err-when-3 in
    let p = err_from_is_err_and from.result from.ensures.1 in
    let row = applies-here c.feeds_no_slot.result 11 _ c.in_err-when-3.ensures in
    let a = sym (c.is_some.ensures ∙ ap is_some c.find.ensures.value) ∙ passes-here c.is_some.result 9 tt c.in_ok-when.ensures in
    let b = bounds-good _ _ (not-false _ (passes-here (not (lt d.min d.max)) 10 tt c.in_ok-when-2.ensures)) in
    rw (p.1, p.2, row.1) (sym (code-11 _ _ a b (sym c.feeds_no_slot.ensures ∙ row.0)))

pub returns : goal.returns
returns c =
    let d = c.args.d in
    let a = sym (c.is_some.ensures ∙ ap is_some c.find.ensures.value) ∙ passes-here c.is_some.result 9 tt c.in_ok-when.ensures in
    let b = bounds-good _ _ (not-false _ (passes-here (not (lt d.min d.max)) 10 tt c.in_ok-when-2.ensures)) in
    let e = sym c.feeds_no_slot.ensures ∙ passes-here c.feeds_no_slot.result 11 tt c.in_ok-when-3.ensures in
    c.when-4.ensures ∙ ap (λ (n : ℕ). judged (12 when leb most_destinations n ∷ [])) c.len.ensures ∙ sym (code-rest _ _ a b e)
