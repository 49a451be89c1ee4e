-- `block_chunks::phase_of` meets its contract.
use mathlib.Core.Path.{sym}
use native.Mathlib.Omega.{arith}
use Rattle.block_chunks.proofs.Chunks.{phase-first, phase-later}
use Rattle.block_chunks.proofs.phase_of.Goals as goal

pub returns-then-i-eq0 : goal.returns-then-i-eq0
returns-then-i-eq0 c =
    let a = c.args in
    (sym (phase-first a.block a.i c.if-i-eq0.true), omega arith)

pub returns : goal.returns
returns c =
    let a = c.args in
    (sym (phase-later a.block a.i c.if-i-eq0.false), omega arith)
