-- `block::work_of` meets its contract.
use Rattle.block.proofs.work_of.Goals as goal

pub returns : goal.returns
returns c = rw (c.at_most-control.ensures, c.at_most-plans.ensures, c.at_most-frames.ensures, c.most_chunks-chunks.ensures, c.scene_of-scene.ensures)
