-- `Engine::swap` meets its contract.
use mathlib.Core.Path.{refl}
use Rattle.std.proofs.lemmas.Result.{err_from_is_err_and}
use Rattle.model.specs.States.{with_marks, with_gains, with_primed, with_program}
use Rattle.engine.proofs.Refused.{kept}
use Rattle.engine.proofs.SettingDone.{swap-done}
use Rattle.engine.proofs.Engine.swap.Goals as goal

pub returns-in_err-swap_code : goal.returns-in_err-swap_code
unfolding with_marks with_gains with_primed with_program
returns-in_err-swap_code c =
    let a = c.args in
    let st = a.self.state in
    let r = c.in_err-swap_code.field-0.0 in
    let p = err_from_is_err_and c.from_residual.result c.from_residual.ensures.1 in
    rw (p.1, p.2) (swap-done st a.program _ c.gains_finite.ensures _ c.in_err-swap_code.ensures st.marks st.gains st.program a.program st.primed (kept r _ _) (kept r _ _) (kept r _ _) (kept r _ _) (kept r _ _))

pub returns : goal.returns
unfolding with_marks with_gains with_primed with_program
returns c =
    let a = c.args in
    swap-done a.self.state a.program _ c.gains_finite.ensures _ c.in_ok-swap_code.ensures _ _ _ _ _ c.swapped-swapped.ensures refl refl refl refl
