-- `lane_input::held_at` meets its contract.
use native.Mathlib.Omega.{arith}
use Rattle.lane_input.proofs.Numbers.{product-bound}
use Rattle.lane_input.proofs.held_at.Goals as goal

pub overflow_mul-i : goal.overflow_mul-i
overflow_mul-i c = let a = c.args in
    omega (arith, product-bound a.source a.stride 255 64 (omega arith) c.requires)

pub returns-then-voice : goal.returns-then-voice
returns-then-voice c = rw c.if-voice.true c.lane_from.ensures

pub returns : goal.returns
returns c = rw c.if-voice.false (rw c.not_a_number.ensures at c.read.ensures)
