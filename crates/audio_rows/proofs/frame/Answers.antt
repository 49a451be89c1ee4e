-- `audio_rows::frame` meets its contract.
use Rattle.audio_rows.proofs.Chunk.{frame-done}
use Rattle.audio_rows.proofs.frame.Goals as goal

pub returns : goal.returns
returns c =
    let a = c.args in
    λ st d o.
    frame-done st d a.job o a.held.now a.globals.now a.bases.now a.tables.now a.samples.now a.start c.lane_count-n.result a.values.now a.audio.now c.put_slews.new.values c.put_row.new.values c.old_row-old.result c.new_row-row.result c.new_row-row.new.new
    c.lane_count-n.ensures.0 c.old_row-old.ensures c.new_row-row.ensures c.put_slews.ensures c.put_row.ensures
