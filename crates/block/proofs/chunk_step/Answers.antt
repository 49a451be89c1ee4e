-- `block::chunk_step` meets its contract.
use native.Mathlib.Omega.{arith}
use Rattle.block.proofs.Steps.{keeps_on, chunks-kept, frames-kept, sources-kept, values-kept, audio-kept, step_is}
use borrow.Author.Rules.{rules}
use Rattle.block.proofs.chunk_step.Goals as goal

pub rowed-requires : goal.rowed-requires
rowed-requires c =
    let k = c.ticked-next.ensures.1 in
    (omega (arith, chunks-kept k, c.requires.1), omega (arith, values-kept k, c.requires.0.values))

pub sounded-requires : goal.sounded-requires
sounded-requires c =
    let k = c.ticked-next.ensures.1 in
    (omega (arith, frames-kept k, c.requires.2), omega (arith, audio-kept k, c.requires.0.audio))

pub glided-requires : goal.glided-requires
glided-requires c =
    let k = c.ticked-next.ensures.1 in
    omega (arith, sources-kept k, c.requires.0.held)

pub shape_of-values : goal.shape_of-values
shape_of-values c =
    search rules

pub returns : goal.returns
returns c =
    let a = c.args in
    let t = c.ticked-next.ensures in
    let g = c.glided.ensures in
    (step_is a.samples.now a.signals a.i a.chunk _ _ _ _ _ _ c.snaps-snap.ensures (t.0 a.audio.now) (c.rowed.ensures _ _ _ _ _) c.sounded.ensures (g.0 _ _ _ _ _), keeps_on t.1 g.1)
