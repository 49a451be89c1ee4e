-- `Engine::set_amount` meets its contract.
use Rattle.std.proofs.lemmas.Result.{err_from_is_err_and}
use Rattle.model.specs.States.{with_gains}
use Rattle.engine.proofs.Refused.{kept}
use Rattle.engine.proofs.SettingDone.{amount-done}
use Rattle.engine.proofs.Engine.set_amount.Goals as goal

pub returns-in_err-gain_code : goal.returns-in_err-gain_code
unfolding with_gains
returns-in_err-gain_code c =
    let a = c.args in
    let r = c.in_err-gain_code.field-0.0 in
    let p = err_from_is_err_and c.from_residual.result c.from_residual.ensures.1 in
    rw (p.1, p.2) (amount-done a.self.state a.slot a.amount _ c.in_err-gain_code.ensures a.self.state.gains (kept r _ _))

pub returns : goal.returns
unfolding with_gains
returns c =
    let a = c.args in
    amount-done a.self.state a.slot a.amount _ c.in_ok-gain_code.ensures _ c.with_amount-next.ensures
