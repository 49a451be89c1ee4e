-- `block::chunk_steps` meets its contract.
use Rattle.block.proofs.chunk_steps.Goals as goal

pub only_swept-requires : goal.only_swept-requires
only_swept-requires c =
    let r = c.sweeping_of-sweeping.ensures.1 _ c.requires.0.audio in
    (r.steps, r.plans)

pub swept_steps-requires : goal.swept_steps-requires
swept_steps-requires c =
    (c.requires.0.held, c.requires.1, c.sweeping_of-sweeping.ensures.1 _ c.requires.0.audio, c.only_swept.ensures c.if-only_swept.true)

pub returns-then-only_swept : goal.returns-then-only_swept
returns-then-only_swept c = c.swept_steps.ensures _ _ _ c.sweeping_of-sweeping.ensures.0
