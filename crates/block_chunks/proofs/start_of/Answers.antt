-- `block_chunks::start_of` meets its contract.
use mathlib.Core.Path.{sym}
use native.Mathlib.Omega.{arith}
use Rattle.block_chunks.proofs.Chunks.{inside, start_first, start-later}
use Rattle.block_chunks.proofs.start_of.Goals as goal

pub returns-then-i-eq0 : goal.returns-then-i-eq0
returns-then-i-eq0 c =
    let a = c.args in
    let h = inside a.block a.i c.requires in
    (sym (start_first a.block a.i c.if-i-eq0.true), omega arith)

pub overflow_add-result : goal.overflow_add-result
overflow_add-result c =
    let a = c.args in
    let h = inside a.block a.i c.requires in
    omega arith

pub overflow_mul-result : goal.overflow_mul-result
overflow_mul-result c =
    let a = c.args in
    let h = inside a.block a.i c.requires in
    omega arith

pub overflow_add-result-2 : goal.overflow_add-result-2
overflow_add-result-2 c =
    let a = c.args in
    let h = inside a.block a.i c.requires in
    omega arith

pub returns : goal.returns
returns c =
    let a = c.args in
    let h = inside a.block a.i c.requires in
    (sym (start-later a.block a.i c.if-i-eq0.false), omega arith)
