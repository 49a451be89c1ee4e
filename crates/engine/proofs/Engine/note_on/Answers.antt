-- `Engine::note_on` meets its contract.
use mathlib.Core.Path.{refl}
use mathlib.Core.List.{[]}
use Rattle.std.proofs.lemmas.Result.{err_from_is_err_and}
use Rattle.engine_notes.specs.Parts.{sounding_of, lane_in, setting_of}
use Rattle.model.specs.World.{world_of}
use Rattle.engine.specs.Noting.{note_of}
use Rattle.engine.proofs.Refused.{kept}
use Rattle.engine.proofs.NotingCalls.{voice-below, inside, on-done}
use Rattle.engine.proofs.Engine.note_on.Goals as goal

pub returns-in_err-code : goal.returns-in_err-code
returns-in_err-code c =
    let a = c.args in
    let st = a.self.state in
    let n = note_of a.note in
    let r = c.in_err-code.field-0.0 in
    let p = err_from_is_err_and c.from_residual.result c.from_residual.ensures.1 in
    rw (p.1, p.2) (on-done st a.held.now a.tables.now a.voice n _ c.no_voice.result c.note_finite.result c.memory_short.result c.no_voice.ensures c.note_finite.ensures c.memory_short.ensures c.in_err-code.ensures (lane_in st a.voice) (setting_of (world_of st a.held.now [] [] [] [] a.tables.now) n) (sounding_of st) a.held.now refl refl (kept r _ _) (kept r _ _))

pub note_on-next-requires : goal.note_on-next-requires
note_on-next-requires c =
    let a = c.args in
    inside a.self.state a.voice c.lane_of-lane.result (voice-below 0 a.voice a.self.state.config.voices c.no_voice.result _ c.no_voice.ensures c.in_ok-code.ensures refl) c.lane_of-lane.ensures

pub returns : goal.returns
returns c =
    let a = c.args in
    on-done a.self.state a.held.now a.tables.now a.voice (note_of a.note) 0 c.no_voice.result c.note_finite.result c.memory_short.result c.no_voice.ensures c.note_finite.ensures c.memory_short.ensures c.in_ok-code.ensures c.lane_of-lane.result c.setting_by-setting.result c.note_on-next.result _ c.lane_of-lane.ensures c.setting_by-setting.ensures c.note_on-next.ensures.0 c.note_on-next.ensures.1
