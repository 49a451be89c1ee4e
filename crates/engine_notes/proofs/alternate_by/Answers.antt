-- `engine_notes::alternate_by` meets its contract.
use borrow.Author.Tests.{eq-eqb, ne_eqb}
use Rattle.engine_notes.proofs.alternate_by.Goals as goal

pub returns-then-kind-eq-INVERSE : goal.returns-then-kind-eq-INVERSE
returns-then-kind-eq-INVERSE c = simp (eq-eqb _ _ c.if-kind-eq-INVERSE.true) c.bit.ensures

pub returns : goal.returns
returns c = simp (ne_eqb _ _ c.if-kind-eq-INVERSE.false) c.bit-2.ensures
