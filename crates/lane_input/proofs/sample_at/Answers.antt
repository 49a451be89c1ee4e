-- `lane_input::sample_at` meets its contract.
use lib.Ieee.{of_bits}
use borrow.Author.Tests.{lt-ltb, le-ltb}
use Rattle.model.specs.Env.{sample_in}
use native.Mathlib.Nat.{add-zero}
use Rattle.lane_input.proofs.sample_at.Goals as goal

pub returns-then-not-voice : goal.returns-then-not-voice
unfolding sample_in
returns-then-not-voice c = let p = c.part_stride-stride in
    rw (c.if-not-voice.true, ← p.ensures.0) (rw add-zero at c.in_frame.ensures)

pub returns-then-stride-lane : goal.returns-then-stride-lane
unfolding sample_in of_bits
returns-then-stride-lane c = let p = c.part_stride-stride in
    let a = c.args in
    rw (c.if-not-voice.false, ← p.ensures.0, le-ltb a.lane p.result c.if-stride-lane.true)

pub returns : goal.returns
unfolding sample_in
returns c = let p = c.part_stride-stride in
    let a = c.args in
    rw (c.if-not-voice.false, ← p.ensures.0, lt-ltb a.lane p.result c.if-stride-lane.false) c.in_frame-2.ensures
