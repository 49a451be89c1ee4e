-- `audio_rows::job_at` meets its contract.
use Rattle.audio_rows.proofs.Jobs.{job-at}
use Rattle.audio_rows.proofs.job_at.Goals as goal

pub returns : goal.returns
returns c = let a = c.args in
    job-at a.job a.chunk a.n c.snaps-snap.ensures c.scene_at-scene.ensures
