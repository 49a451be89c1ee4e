-- `engine_reads::chunk_at` meets its contract.
use Prim.Native.Nat.{◌<◌, ◌≤◌}
use native.Mathlib.Omega.{arith}
use borrow.Author.Tests.{lt-ltb, le-ltb}
use Rattle.model.specs.Chunks.{chunk_total}
use Rattle.model.specs.Outputs.{chunk_at}
use Rattle.engine_reads.proofs.chunk_at.Goals as goal

pub returns-then-total-i : goal.returns-then-total-i
unfolding chunk_at
returns-then-total-i c =
    let a = c.args in
    let h : chunk_total a.state.block ≤ a.i = omega (arith, c.total.ensures) in
    simp (le-ltb _ _ h)

pub returns : goal.returns
unfolding chunk_at
returns c =
    let a = c.args in
    let h : a.i < chunk_total a.state.block = omega (arith, c.total.ensures) in
    simp (lt-ltb _ _ h, c.of.ensures)
