-- `block_chunks::ticks` meets its contract.
use borrow.Author.Tests.{eq-eqb, ne_eqb}
use Rattle.block_chunks.proofs.ticks.Goals as goal

pub returns-then-phase-eq0 : goal.returns-then-phase-eq0
returns-then-phase-eq0 c = simp (eq-eqb _ _ c.if-phase-eq0.true)

pub returns-then-i-eq0 : goal.returns-then-i-eq0
returns-then-i-eq0 c = simp (ne_eqb _ _ c.if-phase-eq0.false, eq-eqb _ _ c.if-i-eq0.true)

pub returns : goal.returns
returns c = simp (ne_eqb _ _ c.if-phase-eq0.false, ne_eqb _ _ c.if-i-eq0.false)
