-- `decimal::scaled` meets its contract. Assumes nothing.
use mathlib.Core.Path.{sym, ap, ◌∙◌}
use native.Mathlib.Omega.{arith}
use borrow.Author.Tests.{eq-eqb, ne_eqb, le-leb, lt-leb}
use Rattle.decimal.specs.Decimal.{given, scaled}
use Rattle.decimal.proofs.Values.{signed-zero}
use borrow.Author.Rules.{rules}
use Rattle.decimal.proofs.scaled.Goals as goal

pub returns-then-m-eq0 : goal.returns-then-m-eq0
unfolding scaled
returns-then-m-eq0 c = ap given (c.signed.ensures ∙ signed-zero c.args.s) ∙ sym (rw (eq-eqb _ 0 c.if-m-eq0.true))

pub returns-then-down-up : goal.returns-then-down-up
unfolding scaled
returns-then-down-up c = c.times.ensures ∙ sym (rw (ne_eqb _ 0 c.if-m-eq0.false, le-leb _ _ c.if-down-up.true))

pub over-requires : goal.over-requires
over-requires c = (omega arith, search rules)

pub returns : goal.returns
unfolding scaled
returns c = c.over.ensures ∙ sym (rw (ne_eqb _ 0 c.if-m-eq0.false, lt-leb _ _ c.if-down-up.false))
