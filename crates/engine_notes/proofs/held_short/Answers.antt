-- `engine_notes::held_short` meets its contract.
use Prim.Native.Nat.{◌≤◌}
use native.Mathlib.Omega.{arith}
use Rattle.engine_notes.proofs.Steps.{product-bound}
use Rattle.engine_notes.proofs.held_short.Goals as goal

pub overflow_mul-result : goal.overflow_mul-result
overflow_mul-result c =
    let s : c.lane_stride-stride.result ≤ 64 = omega (arith, c.lane_stride-stride.ensures) in
    let n : c.held_sources-many.result ≤ 128 = omega (arith, c.held_sources-many.ensures) in
    record { fits = omega (arith, product-bound c.lane_stride-stride.result c.held_sources-many.result 64 128 s n) }

pub returns : goal.returns
returns c = rw (c.lane_stride-stride.ensures, c.held_sources-many.ensures)
