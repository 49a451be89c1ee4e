-- `compile::plan_of` meets its contract.
use Rattle.compile.proofs.plan_of.Goals as goal

pub returns : goal.returns
returns c = rw (c.plan_by.ensures, c.counted-base.ensures, c.is_audio-audio.ensures)
