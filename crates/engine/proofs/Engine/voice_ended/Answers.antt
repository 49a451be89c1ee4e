-- `Engine::voice_ended` meets its contract.
use Rattle.std.proofs.lemmas.Result.{err_from_is_err_and}
use Rattle.model.specs.States.{with_voices, with_marks, with_velocity, with_key}
use Rattle.engine_notes.specs.Parts.{sounding_of}
use Rattle.engine.proofs.Refused.{kept}
use Rattle.refusal.specs.Refusal.{number_of}
use Rattle.engine.proofs.NotingCalls.{end-done}
use Rattle.engine.proofs.Engine.voice_ended.Goals as goal

pub returns-in_err-judged : goal.returns-in_err-judged
unfolding with_voices with_marks with_velocity with_key
returns-in_err-judged c =
    let a = c.args in
    let st = a.self.state in
    let r = c.in_err-judged.field-0.0 in
    let coded = rw c.in_err-judged.was at c.code-judged.ensures in
    let p = err_from_is_err_and c.from_residual.result c.from_residual.ensures.1 in
    rw (p.1, p.2) (end-done st a.held.now a.voice (number_of r) c.no_voice.result c.held_short.result c.no_voice.ensures c.held_short.ensures coded (sounding_of st) (kept r _ _))

pub returns : goal.returns
unfolding with_voices with_marks with_velocity with_key
returns c =
    let a = c.args in
    let coded = rw c.in_ok-judged.was at c.code-judged.ensures in
    let left = rw c.in_ok-judged.was at c.ended-next.ensures in
    end-done a.self.state a.held.now a.voice 0 c.no_voice.result c.held_short.result c.no_voice.ensures c.held_short.ensures coded c.ended-next.result left
