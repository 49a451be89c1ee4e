-- `audio_rows::plan_frames` meets its contract: the rows are a part of the audio.
use mathlib.Core.Path.{ap}
use Prim.Native.Nat.{ℕ, ◌+◌}
use native.Mathlib.Omega.{arith}
use Rattle.list.specs.Part.{part, on_part}
use Rattle.audio_rows.proofs.Jobs.{bounded_of, rows-within}
use Rattle.audio_rows.proofs.Chunk.{plan-done}
use Rattle.audio_rows.proofs.plan_frames.Goals as goal

pub lane_count-width-requires : goal.lane_count-width-requires
lane_count-width-requires c = bounded_of c.args.work c.args.chunk _ c.job_of-job.ensures c.requires.0

pub slice_bounds-frames-end : goal.slice_bounds-frames-end
slice_bounds-frames-end c = let a = c.args in
    rows-within a.work a.chunk _ a.d _ _ _ _ c.job_of-job.ensures.0 c.lane_count-width.ensures.0 c.audio_at-a.ensures.0 c.row_at.ensures.0 c.requires.0 c.requires.1 c.requires.2

pub frames-requires : goal.frames-requires
frames-requires c = let z = c.requires.0 in
    (bounded_of c.args.work c.args.chunk _ c.job_of-job.ensures z, omega (arith, z.end, z.frames), c.room-new.ensures)

pub returns : goal.returns
unfolding part on_part
returns c = let a = c.args in
    let from = c.audio_at-a.result in
    λ st e.
    plan-done st a.work e a.held.now a.globals.now a.bases.now a.tables.now a.samples.now a.chunk a.d from (from + c.row_at.result) c.lane_count-width.result
    a.values.now a.audio.now _ _
    c.job_of-job.ensures.0 c.lane_count-width.ensures.0 c.audio_at-a.ensures.0 (ap (λ (n : ℕ). from + n) c.row_at.ensures.0)
    (rows-within a.work a.chunk _ a.d _ _ _ _ c.job_of-job.ensures.0 c.lane_count-width.ensures.0 c.audio_at-a.ensures.0 c.row_at.ensures.0 c.requires.0 c.requires.1 c.requires.2)
    c.frames.ensures
