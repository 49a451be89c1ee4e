-- `engine_reads::latest` meets its contract.
use mathlib.Core.Path.{refl, ◌≡◌, sym, ap, ◌∙◌}
use mathlib.Core.Bool.{cond}
use Prim.Native.Nat.{ℕ, ◌+◌, ◌-◌, ◌*◌}
use lib.Ieee.{nan}
use lib.ListN.{get_or}
use Rattle.model.specs.NoteCalls.{voice_row}
use Rattle.model.specs.Chunks.{chunk_total}
use Rattle.model.specs.Outputs.{chunk_count}
use Rattle.engine_reads.proofs.Calls.{same_code, voice-most, latest-refused, latest-empty, latest-none, latest-audio, latest-control}
use Rattle.std.proofs.lemmas.Result.{err_from_is_err_and}
use Rattle.engine_reads.proofs.Readings.{number-taken}
use Rattle.engine_reads.proofs.Spots.{bounds}
use Rattle.engine_reads.proofs.latest.Goals as goal

pub returns-in_err-judge : goal.returns-in_err-judge
returns-in_err-judge c =
    let a = c.args in
    let e = same_code (voice_row a.state a.voice) c.in_err-judge.ensures c.short.ensures in
    let p = err_from_is_err_and c.from_residual.result c.from_residual.ensures.1 in
    rw (p.1, p.2) (latest-refused a.state a.values.now a.audio.now a.dest a.voice e (number-taken c.in_err-judge.field-0.0))

pub returns-then-chunks-eq0 : goal.returns-then-chunks-eq0
unfolding chunk_count
returns-then-chunks-eq0 c =
    let a = c.args in
    let e = same_code (voice_row a.state a.voice) c.in_ok-judge.ensures c.short.ensures in
    latest-empty a.state a.values.now a.audio.now a.dest a.voice e refl (sym c.chunk_count-chunks.ensures ∙ c.if-chunks-eq0.true)

pub number_of-requires : goal.number_of-requires
number_of-requires c =
    let a = c.args in
    let e = same_code (voice_row a.state a.voice) c.in_ok-judge.ensures c.short.ensures in
    let s = c.spot_of-spot in
    let b = bounds a.state a.dest s.result s.ensures in
    (b.rows_most, b.width-least, voice-most a.state a.voice _ e refl)

pub returns-then-spot : goal.returns-then-spot
unfolding chunk_count
returns-then-spot c =
    let a = c.args in
    let e = same_code (voice_row a.state a.voice) c.in_ok-judge.ensures c.short.ensures in
    let s = c.spot_of-spot in
    let m = a.audio.now in
    let count : c.chunk_count-chunks.result ≡ chunk_total a.state.block = c.chunk_count-chunks.ensures in
    let some : chunk_total a.state.block ≡ 0 → ⊥ = λ q. c.if-chunks-eq0.false (count ∙ q) in
    let r = s.result in
    let last = ap (λ (n : ℕ). get_or m (r.rows + n * r.width + cond r.voice a.voice 0) nan) c.last_frame-last.ensures in
    latest-audio a.state a.values.now a.audio.now a.dest a.voice e refl some r s.ensures c.if-spot.true (c.number_of.ensures ∙ last)

pub number_of-requires-then-spot-2 : goal.number_of-requires-then-spot-2
number_of-requires-then-spot-2 c =
    let a = c.args in
    let e = same_code (voice_row a.state a.voice) c.in_ok-judge.ensures c.short.ensures in
    let s = c.spot_of-spot in
    let b = bounds a.state a.dest s.result s.ensures in
    (b.to_most, b.width-least, voice-most a.state a.voice _ e refl)

pub returns-then-spot-2 : goal.returns-then-spot-2
unfolding chunk_count
returns-then-spot-2 c =
    let a = c.args in
    let e = same_code (voice_row a.state a.voice) c.in_ok-judge.ensures c.short.ensures in
    let s = c.spot_of-spot in
    let m = a.values.now in
    let count : c.chunk_count-chunks.result ≡ chunk_total a.state.block = c.chunk_count-chunks.ensures in
    let some : chunk_total a.state.block ≡ 0 → ⊥ = λ q. c.if-chunks-eq0.false (count ∙ q) in
    let r = s.result in
    let last = ap (λ (n : ℕ). get_or m (r.to + (n - 1) * r.width + cond r.voice a.voice 0) nan) count in
    latest-control a.state a.values.now a.audio.now a.dest a.voice e refl some r s.ensures c.if-spot.false c.if-spot-2.true (c.number_of-then-spot-2.ensures ∙ last)

pub returns : goal.returns
unfolding chunk_count
returns c =
    let a = c.args in
    let e = same_code (voice_row a.state a.voice) c.in_ok-judge.ensures c.short.ensures in
    let s = c.spot_of-spot in
    let count : c.chunk_count-chunks.result ≡ chunk_total a.state.block = c.chunk_count-chunks.ensures in
    let some : chunk_total a.state.block ≡ 0 → ⊥ = λ q. c.if-chunks-eq0.false (count ∙ q) in
    latest-none a.state a.values.now a.audio.now a.dest a.voice e refl some s.result s.ensures c.if-spot.false c.if-spot-2.false
