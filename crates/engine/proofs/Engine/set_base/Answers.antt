-- `Engine::set_base` meets its contract.
use mathlib.Core.Path.{refl}
use native.Mathlib.Omega.{arith}
use Rattle.std.proofs.lemmas.Result.{err_from_is_err_and}
use Rattle.engine_settings.proofs.Accepted.{base-room}
use Rattle.engine.proofs.Refused.{kept}
use Rattle.engine.proofs.SettingDone.{base_done}
use Rattle.engine.proofs.Engine.set_base.Goals as goal

pub returns-in_err-base_code : goal.returns-in_err-base_code
returns-in_err-base_code c =
    let a = c.args in
    let r = c.in_err-base_code.field-0.0 in
    let p = err_from_is_err_and c.from_residual.result c.from_residual.ensures.1 in
    rw (p.1, p.2) (base_done a.self.state a.bases.now a.dest a.value _ c.in_err-base_code.ensures _ (kept r _ _))

pub offset_bounds-bases-dest : goal.offset_bounds-bases-dest
offset_bounds-bases-dest c = omega (arith, base-room _ _ _ _ _ c.in_ok-base_code.ensures refl)

pub bounds-bases-dest : goal.bounds-bases-dest
bounds-bases-dest c = omega (arith, base-room _ _ _ _ _ c.in_ok-base_code.ensures refl)

pub returns : goal.returns
returns c =
    let a = c.args in
    base_done a.self.state a.bases.now a.dest a.value _ c.in_ok-base_code.ensures _ refl
