-- `engine_reads::to_part` meets its contract.
use mathlib.Core.Path.{sym, ◌∙◌}
use borrow.Author.Tests.{not-true, not-false}
use Rattle.engine_reads.proofs.Spots.{bounds}
use Rattle.engine_reads.proofs.PartsRead.{said, no-to-short, no-to, to-part-is}
use Rattle.model.specs.Outputs.{chunk_count}
use Rattle.engine_reads.proofs.to_part.Goals as goal

pub returns-then-values_short : goal.returns-then-values_short
returns-then-values_short c =
    let a = c.args in
    sym (no-to-short a.state a.values.now a.dest (sym c.values_short.ensures ∙ c.if-values_short.true))

pub returns-then-not-spot : goal.returns-then-not-spot
returns-then-not-spot c =
    let a = c.args in
    let s = c.spot_of-spot in
    said c.none.ensures (no-to a.state a.values.now a.dest (sym c.values_short.ensures ∙ c.if-values_short.false) s.result s.ensures (not-true _ c.if-not-spot.true))

pub rows-requires : goal.rows-requires
rows-requires c =
    let a = c.args in
    let s = c.spot_of-spot in
    (bounds a.state a.dest s.result s.ensures).width-least

pub returns : goal.returns
unfolding chunk_count
returns c =
    let a = c.args in
    let s = c.spot_of-spot in
    said c.rows.ensures (to-part-is a.state a.values.now a.dest (sym c.values_short.ensures ∙ c.if-values_short.false) s.result s.ensures (not-false _ c.if-not-spot.false) c.chunk_count.ensures)
