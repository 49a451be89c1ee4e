-- `engine_reads::number_at` meets its contract.
use mathlib.Core.Path.{sym, ap, ◌∙◌}
use Prim.Native.Nat.{◌+◌, ◌*◌}
use native.Mathlib.Omega.{arith}
use lib.Ieee.{Float, nan}
use lib.ListN.{length, get_or}
use Rattle.list.proofs.Elements.{get_or_past}
use Rattle.engine_reads.proofs.Memory.{rows-past, rows-within}
use Rattle.engine_reads.proofs.number_at.Goals as goal

pub returns-then-mem-width : goal.returns-then-mem-width
returns-then-mem-width c =
    let a = c.args in
    let m = a.mem.now in
    let h = rows-past (length m) a.width a.k (omega arith) c.if-mem-width.true in
    c.not_a_number-none.ensures ∙ sym (get_or_past m (a.a + a.k * a.width + a.lane) nan (omega arith))

pub overflow_mul-i : goal.overflow_mul-i
overflow_mul-i c =
    let a = c.args in
    omega (arith, rows-within (length a.mem.now) a.width a.k (omega arith) (omega arith))

pub overflow_add-i : goal.overflow_add-i
overflow_add-i c =
    let a = c.args in
    omega (arith, rows-within (length a.mem.now) a.width a.k (omega arith) (omega arith))

pub overflow_add-i-2 : goal.overflow_add-i-2
overflow_add-i-2 c =
    let a = c.args in
    omega (arith, rows-within (length a.mem.now) a.width a.k (omega arith) (omega arith))

pub returns : goal.returns
returns c =
    let a = c.args in
    let m = a.mem.now in
    let i = a.a + a.k * a.width + a.lane in
    c.read.ensures ∙ ap (λ (x : Float). get_or m i x) c.not_a_number-none.ensures
