-- `Engine::set_voice_held` meets its contract.
use mathlib.Core.Path.{refl}
use Rattle.std.proofs.lemmas.Result.{err_from_is_err_and}
use Rattle.engine_settings.proofs.Accepted.{voice-held-room}
use Rattle.engine.proofs.Refused.{kept}
use Rattle.engine.proofs.SettingDone.{voice-done}
use Rattle.engine.proofs.Engine.set_voice_held.Goals as goal

pub returns-in_err-voice_held_code : goal.returns-in_err-voice_held_code
returns-in_err-voice_held_code c =
    let a = c.args in
    let r = c.in_err-voice_held_code.field-0.0 in
    let p = err_from_is_err_and c.from_residual.result c.from_residual.ensures.1 in
    rw (p.1, p.2) (voice-done a.self.state a.held.now a.source a.voice a.value _ c.in_err-voice_held_code.ensures _ refl _ (kept r _ _))

pub write_lane-requires : goal.write_lane-requires
write_lane-requires c = voice-held-room _ _ _ refl _ c.stride_of-stride.ensures _ _ _ _ c.in_ok-voice_held_code.ensures

pub returns : goal.returns
returns c =
    let a = c.args in
    voice-done a.self.state a.held.now a.source a.voice a.value _ c.in_ok-voice_held_code.ensures _ c.stride_of-stride.ensures _ c.write_lane.ensures
