-- `plan_sweep::row_key` meets its contract.
use Rattle.plan_sweep.proofs.row_key.Goals as goal

pub returns-in-Signal : goal.returns-in-Signal
returns-in-Signal c = rw c.in-Signal.is c.voice_key.ensures
