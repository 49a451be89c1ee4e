-- `block_chunks::of` meets its contract.
use Rattle.model.specs.Chunks.{chunk_of}
use Rattle.block_chunks.proofs.of.Goals as goal

pub returns : goal.returns
unfolding chunk_of
returns c =
    let s = c.start_of-start.ensures.0 in
    let p = c.phase_of-phase.ensures.0 in
    rw (c.ticks.ensures, c.lesser.ensures, s, p)
