-- `source::one_if` meets its contract. Assumes nothing.
use native.Mathlib.Omega.{arith}
use borrow.Author.Tests.{eq-eqb, ne_eqb}
use Rattle.source.proofs.one_if.Goals as goal

pub returns-then-n-eq0 : goal.returns-then-n-eq0
returns-then-n-eq0 c = (rw (eq-eqb _ _ c.if-n-eq0.true), omega arith)

pub returns : goal.returns
returns c = (rw (ne_eqb _ _ c.if-n-eq0.false), omega arith)
