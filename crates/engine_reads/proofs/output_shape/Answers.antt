-- `engine_reads::output_shape` meets its contract.
use mathlib.Core.Path.{sym, ◌∙◌}
use Rattle.engine_reads.specs.Spot.{spot_of}
use Rattle.model.specs.Outputs.{output_of, chunk_count}
use Rattle.engine_reads.proofs.Shapes.{shape-is}
use Rattle.engine_reads.proofs.output_shape.Goals as goal

pub returns-then-short : goal.returns-then-short
unfolding output_of
returns-then-short c = simp (sym c.short.ensures ∙ c.if-short.true)

pub returns : goal.returns
unfolding output_of chunk_count spot_of
returns c =
    let r = c.short in
    rw c.shape.ensures (shape-is c.spot_of-spot.result c.chunk_count.result ∙ rw (c.spot_of-spot.ensures, c.chunk_count.ensures) (simp (sym r.ensures ∙ c.if-short.false)))
