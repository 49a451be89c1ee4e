-- `block_chunks::total` meets its contract.
use mathlib.Core.Path.{sym, ◌∙◌}
use native.Mathlib.Omega.{arith}
use Rattle.block_chunks.proofs.Chunks.{total-empty, total-nonempty}
use Rattle.block_chunks.proofs.total.Goals as goal

pub returns-then-end-start : goal.returns-then-end-start
returns-then-end-start c = sym (total-empty c.args.block c.if-end-start.true)

pub returns : goal.returns
returns c = c.periods.ensures ∙ sym (total-nonempty c.args.block (omega arith))
