-- `layout::audio` meets its contract.
use Prim.Native.Nat.{◌*◌, ◌≤◌}
use native.Mathlib.Omega.{arith}
use borrow.Author.Rules.{rules}
use Rattle.config.specs.Sizes.{slots, most_frames, most_stride}
use Rattle.layout.proofs.Bounds.{product-bound, stride-bound}
use Rattle.layout.proofs.audio.Reads as reads
use Rattle.config.proofs.lane_stride.Reads as lane-stride-reads
use Rattle.state_filled.proofs.held.Reads as held_reads
use Rattle.layout.proofs.held_frames.Reads as held-frames-reads
use Rattle.layout.proofs.audio.Goals as goal

-- src/lib.rt:36:36
pub overflow_mul-result : goal.overflow_mul-result
overflow_mul-result c =
    let h = c.held.ensures in
    let k = c.held_frames.ensures in
    omega (arith, product-bound c.held.result c.held_frames.result slots most_frames (omega (arith, h)) (omega (arith, k)))

-- src/lib.rt:36:5
pub overflow_mul-result-2 : goal.overflow_mul-result-2
overflow_mul-result-2 c =
    let h = c.held.ensures in
    let k = c.held_frames.ensures in
    let s = c.lane_stride in
    let p = product-bound c.held.result c.held_frames.result slots most_frames (omega (arith, h)) (omega (arith, k)) in
    omega (arith, product-bound s.result (c.held.result * c.held_frames.result) most_stride (slots * most_frames) (rw s.ensures (stride-bound _)) p)

-- src/lib.rt:33:1
pub returns : goal.returns
returns c = rw (c.lane_stride.ensures, c.held.ensures, c.held_frames.ensures)
