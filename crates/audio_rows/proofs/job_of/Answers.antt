-- `audio_rows::job_of` meets its contract.
use Rattle.plan_sum.proofs.Simple.{none_of}
use Rattle.audio_rows.proofs.Jobs.{job-of}
use Rattle.audio_rows.proofs.job_of.Goals as goal

pub returns : goal.returns
returns c =
    let w = c.args.work in
    job-of w c.some_simple-simple.result c.plan_at-plan.ensures (λ e. none_of w.routes c.simples_of-simples.result _ _ c.simples_of-simples.ensures (c.some_simple-simple.ensures e))
