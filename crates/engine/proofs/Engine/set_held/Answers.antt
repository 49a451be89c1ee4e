-- `Engine::set_held` meets its contract.
use mathlib.Core.Path.{refl}
use Rattle.std.proofs.lemmas.Result.{err_from_is_err_and}
use Rattle.engine_settings.proofs.Accepted.{held-room}
use Rattle.engine.proofs.Refused.{kept}
use Rattle.engine.proofs.SettingDone.{held-done}
use Rattle.engine.proofs.Engine.set_held.Goals as goal

pub returns-in_err-held_code : goal.returns-in_err-held_code
returns-in_err-held_code c =
    let a = c.args in
    let r = c.in_err-held_code.field-0.0 in
    let p = err_from_is_err_and c.from_residual.result c.from_residual.ensures.1 in
    rw (p.1, p.2) (held-done a.self.state a.held.now a.globals.now a.source a.value _ c.in_err-held_code.ensures _ _ refl refl _ _ (kept r _ _) (kept r _ _))

pub write_held-requires : goal.write_held-requires
write_held-requires c = held-room _ _ _ refl _ c.stride_of-stride.ensures _ _ _ _ c.in_ok-held_code.ensures

pub returns : goal.returns
returns c =
    let a = c.args in
    held-done a.self.state a.held.now a.globals.now a.source a.value _ c.in_ok-held_code.ensures _ _ c.voice_at-voice.ensures c.stride_of-stride.ensures _ _ c.write_held.ensures.rows c.write_held.ensures.single
