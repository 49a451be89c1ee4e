-- `engine_reads::ramp` meets its contract.
use mathlib.Core.Path.{refl, ap, ◌∙◌}
use Prim.Native.Nat.{◌≤◌}
use native.Mathlib.Omega.{arith}
use borrow.Author.Tests.{not-true, not-false}
use lib.ListN.{length}
use Rattle.list.specs.Fill.{fill}
use Rattle.state.specs.Ramped as M
use Rattle.model.specs.NoteCalls.{voice_row}
use Rattle.model.specs.Outputs.{RampWritten, ramp_length}
use Rattle.engine_reads.proofs.Calls.{same_code, voice-most}
use Rattle.std.proofs.lemmas.Result.{err_from_is_err_and}
use Rattle.engine_reads.proofs.Readings.{number-taken}
use Rattle.engine_reads.proofs.Spots.{bounds}
use Rattle.engine_reads.proofs.Ramps.{frame_number, ramp-refused, ramp-room, ramp-none, ramp-filled}
use Rattle.engine_reads.proofs.ramp.Goals as goal

pub returns-in_err-judge : goal.returns-in_err-judge
returns-in_err-judge c =
    let a = c.args in
    let e = same_code (voice_row a.state a.voice) c.in_err-judge.ensures c.ramp_short.ensures in
    let m = ramp-refused a.state a.values.now a.dest a.voice a.out.now e (number-taken c.in_err-judge.field-0.0) in
    let p = err_from_is_err_and c.from_residual.result c.from_residual.ensures.1 in
    rw (p.1, p.2) (ap (λ (x : RampWritten). x.answer) m, ap (λ (x : RampWritten). x.out) m)

pub returns-then-not-spot : goal.returns-then-not-spot
returns-then-not-spot c =
    let a = c.args in
    let e = same_code (voice_row a.state a.voice) c.in_ok-judge.ensures c.ramp_short.ensures in
    let s = c.spot_of-spot in
    let m = ramp-none a.state a.values.now a.dest a.voice a.out.now e refl s.result s.ensures (not-true _ c.if-not-spot.true) in
    (ap (λ (x : RampWritten). x.answer) m, ap (λ (x : RampWritten). x.out) m)

pub write_ramp-requires : goal.write_ramp-requires
write_ramp-requires c =
    let a = c.args in
    let e = same_code (voice_row a.state a.voice) c.in_ok-judge.ensures c.ramp_short.ensures in
    let s = c.spot_of-spot in
    let z = refl in
    let room : ramp_length a.state ≤ length a.out.now = ramp-room a.state a.values.now a.dest a.voice a.out.now e z in
    (bounds a.state a.dest s.result s.ensures, voice-most a.state a.voice _ e z, omega arith, omega (arith, c.frames_of-frames.ensures))

pub returns : goal.returns
returns c =
    let a = c.args in
    let e = same_code (voice_row a.state a.voice) c.in_ok-judge.ensures c.ramp_short.ensures in
    let s = c.spot_of-spot in
    let z = refl in
    let r = s.result in
    let f = c.frames_of-frames.ensures in
    let m = ramp-filled a.state a.values.now a.dest a.voice a.out.now e z r s.ensures (not-false _ c.if-not-spot.false) (ramp-room a.state a.values.now a.dest a.voice a.out.now e z) in
    (ap M.Filled f ∙ ap (λ (x : RampWritten). x.answer) m, c.write_ramp.ensures ∙ ap (fill a.out.now (frame_number a.state a.values.now a.dest a.voice r s.ensures)) f ∙ ap (λ (x : RampWritten). x.out) m)
