-- `lane_input::in_frame` meets its contract.
use mathlib.Core.Path.{ap}
use mathlib.Core.Bool.{not}
use Prim.Native.Nat.{◌+◌, ◌*◌}
use native.Mathlib.Omega.{arith}
use lib.Ieee.{of_bits}
use borrow.Author.Tests.{ltb-true, ltb-false, le-ltb}
use Rattle.lane_input.proofs.Tests.{was-true, was-false}
use Rattle.lane_input.proofs.in_frame.Goals as goal

pub returns-then-not-starts_below : goal.returns-then-not-starts_below
unfolding of_bits
returns-then-not-starts_below c = let a = c.args in
    let past = ltb-false (a.frame * a.stride) a.part.len (was-false c.starts_below.ensures (ap not c.if-not-starts_below.true)) in
    rw (le-ltb (a.frame * a.stride + a.lane) a.part.len (omega arith))

pub overflow_mul-start : goal.overflow_mul-start
overflow_mul-start c = let a = c.args in
    omega (arith, ltb-true (a.frame * a.stride) a.part.len (was-true c.starts_below.ensures (ap not c.if-not-starts_below.false)))

pub overflow_sub-len : goal.overflow_sub-len
overflow_sub-len c = let a = c.args in
    omega (arith, ltb-true (a.frame * a.stride) a.part.len (was-true c.starts_below.ensures (ap not c.if-not-starts_below.false)))

pub returns-then-len-start : goal.returns-then-len-start
unfolding of_bits
returns-then-len-start c = let a = c.args in
    rw (le-ltb (a.frame * a.stride + a.lane) a.part.len (omega arith))
