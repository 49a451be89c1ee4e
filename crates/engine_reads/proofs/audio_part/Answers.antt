-- `engine_reads::audio_part` meets its contract.
use mathlib.Core.Path.{sym, ◌∙◌}
use borrow.Author.Tests.{not-true, not-false}
use Rattle.engine_reads.proofs.Spots.{bounds}
use Rattle.engine_reads.proofs.PartsRead.{said, no-audio-short, no-audio, audio-part-is}
use Rattle.engine_reads.proofs.audio_part.Goals as goal

pub returns-then-audio_short : goal.returns-then-audio_short
returns-then-audio_short c =
    let a = c.args in
    sym (no-audio-short a.state a.audio.now a.dest (sym c.audio_short.ensures ∙ c.if-audio_short.true))

pub returns-then-not-spot : goal.returns-then-not-spot
returns-then-not-spot c =
    let a = c.args in
    let s = c.spot_of-spot in
    said c.none.ensures (no-audio a.state a.audio.now a.dest (sym c.audio_short.ensures ∙ c.if-audio_short.false) s.result s.ensures (not-true _ c.if-not-spot.true))

pub rows-requires : goal.rows-requires
rows-requires c =
    let a = c.args in
    let s = c.spot_of-spot in
    (bounds a.state a.dest s.result s.ensures).width-least

pub returns : goal.returns
returns c =
    let a = c.args in
    let s = c.spot_of-spot in
    said c.rows.ensures (audio-part-is a.state a.audio.now a.dest (sym c.audio_short.ensures ∙ c.if-audio_short.false) s.result s.ensures (not-false _ c.if-not-spot.false) c.frame_count.ensures)
