-- `Engine::new` meets its contract.
use mathlib.Core.Path.{refl}
use Rattle.std.proofs.lemmas.Result.{err_from_is_err_and}
use Rattle.engine_settings.proofs.Accepted.{new-room}
use Rattle.engine.proofs.Refused.{number-taken}
use Rattle.engine.proofs.SettingNew.{sources-fit, dests-fit, new-refused, new-made}
use Rattle.engine.proofs.Engine.new.Goals as goal

pub returns-in_err-new_code : goal.returns-in_err-new_code
returns-in_err-new_code c =
    let a = c.args in
    let r = new-refused a.sources a.dests a.config a.held.now a.globals.now a.bases.now _ _ _ c.sources_of-n.ensures c.dests_of-d.ensures c.in_err-new_code.ensures (number-taken c.in_err-new_code.field-0.0) _ refl in
    let p = err_from_is_err_and c.from_residual.result c.from_residual.ensures.1 in
    rw (p.1, p.2) (record { answer = r.0; lent = r.1 })

pub zero-requires : goal.zero-requires
zero-requires c = rw c.held_need.ensures (new-room _ _ _ refl _ _ _ _ c.in_ok-new_code.ensures).0

pub zero-requires-2 : goal.zero-requires-2
zero-requires-2 c = sources-fit _ _ _ c.sources_of-n.ensures (new-room _ _ _ refl _ _ _ _ c.in_ok-new_code.ensures).1

pub zero-requires-3 : goal.zero-requires-3
zero-requires-3 c = dests-fit _ _ _ c.dests_of-d.ensures (new-room _ _ _ refl _ _ _ _ c.in_ok-new_code.ensures).2

pub returns : goal.returns
returns c =
    let a = c.args in
    let r = new-made a.sources a.dests a.config a.held.now a.globals.now a.bases.now _ _ _ c.sources_of-n.ensures c.dests_of-d.ensures c.in_ok-new_code.ensures refl _ _ c.marks_of-mark.ensures c.fresh_state-state.ensures _ c.held_need.ensures _ _ _ c.zero.ensures c.zero-2.ensures c.zero-3.ensures in
    record { answer = r.0; lent = r.1 }
