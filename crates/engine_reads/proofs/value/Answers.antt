-- `engine_reads::value` meets its contract.
use mathlib.Core.Path.{refl}
use native.Mathlib.Omega.{arith}
use borrow.Author.Tests.{not-true, not-false}
use Rattle.model.specs.NoteCalls.{voice_row}
use Rattle.engine_reads.proofs.Calls.{same_code, voice-most, value-refused, value_none, value-past, value-value}
use Rattle.std.proofs.lemmas.Result.{err_from_is_err_and}
use Rattle.engine_reads.proofs.Readings.{number-taken}
use Rattle.engine_reads.proofs.Spots.{bounds}
use Rattle.model.specs.Outputs.{chunk_count}
use Rattle.engine_reads.proofs.value.Goals as goal

pub returns-in_err-judge : goal.returns-in_err-judge
returns-in_err-judge c =
    let a = c.args in
    let e = same_code (voice_row a.state a.voice) c.in_err-judge.ensures c.values_short.ensures in
    let p = err_from_is_err_and c.from_residual.result c.from_residual.ensures.1 in
    rw (p.1, p.2) (value-refused a.state a.values.now a.dest a.chunk a.voice e (number-taken c.in_err-judge.field-0.0))

pub returns-then-not-spot : goal.returns-then-not-spot
returns-then-not-spot c =
    let a = c.args in
    let e = same_code (voice_row a.state a.voice) c.in_ok-judge.ensures c.values_short.ensures in
    let s = c.spot_of-spot in
    value_none a.state a.values.now a.dest a.chunk a.voice e refl s.result s.ensures (not-true _ c.if-not-spot.true)

pub returns-then-chunk_count-chunk : goal.returns-then-chunk_count-chunk
unfolding chunk_count
returns-then-chunk_count-chunk c =
    let a = c.args in
    let e = same_code (voice_row a.state a.voice) c.in_ok-judge.ensures c.values_short.ensures in
    let s = c.spot_of-spot in
    value-past a.state a.values.now a.dest a.chunk a.voice e refl s.result s.ensures (not-false _ c.if-not-spot.false) (omega (arith, c.chunk_count.ensures))

pub number_of-requires : goal.number_of-requires
number_of-requires c =
    let a = c.args in
    let e = same_code (voice_row a.state a.voice) c.in_ok-judge.ensures c.values_short.ensures in
    let s = c.spot_of-spot in
    let b = bounds a.state a.dest s.result s.ensures in
    (b.to_most, b.width-least, voice-most a.state a.voice _ e refl)

pub returns : goal.returns
unfolding chunk_count
returns c =
    let a = c.args in
    let e = same_code (voice_row a.state a.voice) c.in_ok-judge.ensures c.values_short.ensures in
    let s = c.spot_of-spot in
    value-value a.state a.values.now a.dest a.chunk a.voice e refl s.result s.ensures (not-false _ c.if-not-spot.false) (omega (arith, c.chunk_count.ensures)) c.number_of.ensures
