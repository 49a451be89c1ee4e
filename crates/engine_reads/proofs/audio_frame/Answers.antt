-- `engine_reads::audio_frame` meets its contract.
use mathlib.Core.Path.{sym, ◌∙◌, ap}
use native.Mathlib.Omega.{arith}
use borrow.Author.Tests.{not-true, not-false}
use Rattle.engine_reads.proofs.Spots.{bounds}
use Prim.Native.Nat.{ℕ, ◌+◌}
use Rattle.list.specs.Part.{part}
use Rattle.engine_reads.proofs.PartsRead.{said, no-frame-short, no-frame, frame_past, frame_is}
use Rattle.engine_reads.proofs.audio_frame.Goals as goal

pub returns-then-audio_short : goal.returns-then-audio_short
returns-then-audio_short c =
    let a = c.args in
    sym (no-frame-short a.state a.audio.now a.dest (sym c.audio_short.ensures ∙ c.if-audio_short.true) a.frame)

pub returns-then-not-spot : goal.returns-then-not-spot
returns-then-not-spot c =
    let a = c.args in
    let s = c.spot_of-spot in
    said c.none.ensures (no-frame a.state a.audio.now a.dest (sym c.audio_short.ensures ∙ c.if-audio_short.false) s.result s.ensures (not-true _ c.if-not-spot.true) a.frame)

pub returns-then-frame_count-frame : goal.returns-then-frame_count-frame
returns-then-frame_count-frame c =
    let a = c.args in
    let s = c.spot_of-spot in
    said c.none-then-frame_count-frame.ensures (frame_past a.state a.audio.now a.dest (sym c.audio_short.ensures ∙ c.if-audio_short.false) s.result s.ensures (not-false _ c.if-not-spot.false) a.frame (omega (arith, c.frame_count.ensures)))

pub row_start-requires : goal.row_start-requires
row_start-requires c =
    let a = c.args in
    let s = c.spot_of-spot in
    let b = bounds a.state a.dest s.result s.ensures in
    (b.rows_most, b.width-most, omega (arith, c.frame_count.ensures))

pub returns : goal.returns
returns c =
    let a = c.args in
    let s = c.spot_of-spot in
    let r = s.result in
    let m = a.audio.now in
    said (c.part.ensures ∙ ap (λ (n : ℕ). part m n (n + r.width)) c.row_start.ensures)
    (frame_is a.state a.audio.now a.dest (sym c.audio_short.ensures ∙ c.if-audio_short.false) r s.ensures (not-false _ c.if-not-spot.false) a.frame (omega (arith, c.frame_count.ensures)))
