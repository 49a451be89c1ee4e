-- `engine_reads::rows` meets its contract.
use mathlib.Core.Path.{◌∙◌}
use Prim.Native.Nat.{◌*◌}
use native.Mathlib.Omega.{arith}
use lib.ListN.{length}
use Rattle.engine_reads.proofs.Memory.{rows-past, rows-within, parts-to-end}
use Rattle.engine_reads.proofs.rows.Goals as goal

pub returns-then-mem-width : goal.returns-then-mem-width
returns-then-mem-width c =
    let a = c.args in
    let m = a.mem.now in
    let h = rows-past (length m) a.width a.k (omega arith) c.if-mem-width.true in
    c.part.ensures ∙ parts-to-end m a.a (length m) (a.k * a.width) (omega arith) (omega arith)

pub overflow_mul-k : goal.overflow_mul-k
overflow_mul-k c =
    let a = c.args in
    omega (arith, rows-within (length a.mem.now) a.width a.k (omega arith) (omega arith))
