-- `Engine::is_active` meets its contract.
use Rattle.engine.proofs.NotingCalls.{no-such-voice, such-a-voice}
use Rattle.engine.proofs.Engine.is_active.Goals as goal

pub returns-then-no_voice : goal.returns-then-no_voice
returns-then-no_voice c = no-such-voice c.args.self.state c.args.voice c.no_voice.result c.no_voice.ensures c.if-no_voice.true

pub returns : goal.returns
returns c = such-a-voice c.args.self.state c.args.voice c.no_voice.result c.no_voice.ensures c.if-no_voice.false c.is_active.result c.is_active.ensures
