-- `Engine::set_voice_limit` meets its contract.
use Rattle.model.specs.States.{with_limit}
use Rattle.engine.proofs.SettingDone.{limit-set}
use Rattle.engine.proofs.Engine.set_voice_limit.Goals as goal

pub returns : goal.returns
unfolding with_limit
returns c =
    let a = c.args in
    limit-set a.self.state a.voices _ c.limit_of-limit.ensures
