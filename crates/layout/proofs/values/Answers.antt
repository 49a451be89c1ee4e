-- `layout::values` meets its contract.
use native.Mathlib.Omega.{arith}
use borrow.Author.Rules.{rules}
use Rattle.config.specs.Sizes.{slots, most_frames, most_stride, most_chunks}
use Rattle.model.specs.Need.{values_rows}
use Rattle.layout.proofs.Bounds.{product-bound, stride-bound}
use Rattle.layout.proofs.values.Reads as reads
use Rattle.config.proofs.lane_stride.Reads as lane-stride-reads
use Rattle.config.proofs.most_chunks.Reads as most-chunks-reads
use Rattle.state_filled.proofs.held.Reads as held_reads
use Rattle.layout.proofs.rows.Reads as rows-reads
use Rattle.layout.proofs.values.Goals as goal

-- src/lib.rt:12:5
pub overflow_mul-result : goal.overflow_mul-result
overflow_mul-result c =
    let stride = c.lane_stride in
    omega (arith, product-bound stride.result c.rows.result most_stride (values_rows (most_chunks most_frames) slots slots) (rw stride.ensures (stride-bound _)) c.rows.ensures.1)

-- src/lib.rt:9:1
pub returns : goal.returns
returns c = rw (c.lane_stride.ensures, c.rows.ensures.0, c.most_chunks.ensures, c.held.ensures, c.held-2.ensures)
