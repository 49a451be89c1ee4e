-- `compile::plan_by` meets its contract.
use Rattle.model.specs.Plans.{plan_by}
use Rattle.compile.proofs.plan_by.Goals as goal

pub returns : goal.returns
unfolding plan_by
returns c = rw c.is_voice.ensures
