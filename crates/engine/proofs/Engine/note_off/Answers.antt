-- `Engine::note_off` meets its contract.
use Rattle.std.proofs.lemmas.Result.{err_from_is_err_and}
use Rattle.engine.proofs.NotingCalls.{voice-below, inside, off-done}
use Rattle.engine.proofs.Engine.note_off.Goals as goal

pub released-requires : goal.released-requires
released-requires c z =
    let a = c.args in
    inside a.self.state a.voice c.lane_of-lane.result (voice-below _ a.voice a.self.state.config.voices c.no_voice.result _ c.no_voice.ensures c.code-judged.ensures z) c.lane_of-lane.ensures

pub returns-in_err-judged : goal.returns-in_err-judged
returns-in_err-judged c =
    let a = c.args in
    let coded = rw c.in_err-judged.was at c.code-judged.ensures in
    let left = rw c.in_err-judged.was at c.released.ensures in
    let p = err_from_is_err_and c.from_residual.result c.from_residual.ensures.1 in
    rw (p.1, p.2) (off-done a.self.state a.held.now a.voice a.release_velocity _ c.no_voice.result c.is_finite.result c.held_short.result c.no_voice.ensures c.is_finite.ensures c.held_short.ensures coded c.lane_of-lane.result _ c.lane_of-lane.ensures left)

pub returns : goal.returns
returns c =
    let a = c.args in
    let coded = rw c.in_ok-judged.was at c.code-judged.ensures in
    let left = rw c.in_ok-judged.was at c.released.ensures in
    off-done a.self.state a.held.now a.voice a.release_velocity 0 c.no_voice.result c.is_finite.result c.held_short.result c.no_voice.ensures c.is_finite.ensures c.held_short.ensures coded c.lane_of-lane.result _ c.lane_of-lane.ensures left
