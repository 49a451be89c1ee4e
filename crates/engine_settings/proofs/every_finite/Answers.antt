use mathlib.Core.Path.{◌≡◌, refl, sym, ◌∙◌}
use Prim.Native.Nat.{◌-◌, ◌≤◌}
use native.Mathlib.Omega.{arith}
use borrow.Author.Rules.{rules}
use borrow.Author.Tests.{not-true, not-false}
use lib.ListN.{length, drop}
use Rattle.model.specs.Settings.{every_finite}
use Rattle.engine_settings.proofs.Finite.{from-here, past_all, and-false, and-true}
use Rattle.engine_settings.proofs.every_finite.Goals as goal

pub loop-i-init : goal.loop-i-init
loop-i-init c = (search rules, search rules, refl)

pub returns-then-not-is_finite : goal.returns-then-not-is_finite
returns-then-not-is_finite c =
    let l = c.loop-i in
    sym (l.invariant.2 ∙ from-here _ l.i (omega arith) ∙ sym (and-false _ (sym c.is_finite.ensures ∙ c.if-not-is_finite.true)))

pub loop-i-preserved : goal.loop-i-preserved
loop-i-preserved c =
    let l = c.loop-i in
    (search rules, l.invariant.1, l.invariant.2 ∙ from-here _ l.i (omega arith) ∙ sym (and-true (sym c.is_finite.ensures ∙ c.if-not-is_finite.false)))

pub returns : goal.returns
returns c =
    let l = c.loop-i in
    sym (l.invariant.2 ∙ past_all _ l.i (omega arith))
