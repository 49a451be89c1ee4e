-- `engine_reads::spot_of` meets its contract.
use Rattle.engine_reads.proofs.Spots.{spot_is}
use Rattle.engine_reads.proofs.spot_of.Goals as goal

pub returns : goal.returns
returns c =
    let a = c.args in
    rw (c.and.ensures, c.and-2.ensures, c.width.ensures, c.from_start.ensures, c.to_start.ensures, c.rows_start.ensures)
    (spot_is a.state a.dest c.held-plans.ensures c.plan_place-i.ensures.0 c.lane_stride-stride.ensures c.most_chunks-chunks.ensures c.frame_count.ensures c.is_voice-voice.ensures c.is_audio-audio.ensures)
