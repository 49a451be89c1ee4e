-- `decimal::over` meets its contract. Assumes nothing.
use mathlib.Core.Path.{sym, ap, ◌∙◌}
use mathlib.Core.Bool.{cond}
use Prim.Native.Nat.{◌^◌}
use lib.Ieee.{Float, binary32, neg}
use borrow.Author.Tests.{le-leb, lt-leb}
use Rattle.decimal.specs.Decimal.{given, over}
use Rattle.decimal.proofs.Rounding.{signed_round}
use Rattle.decimal.proofs.over.Goals as goal

pub returns-then-k-gt17 : goal.returns-then-k-gt17
unfolding over
returns-then-k-gt17 c = sym (rw (lt-leb _ 17 c.if-k-gt17.true))

pub returns : goal.returns
unfolding over
returns c =
    let a = c.args in
    ap given (c.signed.ensures ∙ ap (λ (z : Float). cond a.s (neg z) z) c.quotient.ensures ∙ signed_round binary32 a.s a.m (10 ^ a.k))
    ∙ sym (rw (le-leb a.k 17 c.if-k-gt17.false))
