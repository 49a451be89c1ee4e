-- `control_tick::turn_at` meets its contract.
use native.Mathlib.Omega.{arith}
use Rattle.plan_turning.proofs.Turned.{turns_more}
use Rattle.control_tick.proofs.Turned.{job-turn, job-given}
use borrow.Author.Rules.{rules}
use Rattle.control_tick.proofs.turn_at.Goals as goal

pub turn-requires : goal.turn-requires
turn-requires c =
    let made = c.job_of-job.ensures in (made.1, made.2, c.requires.2)

pub returns : goal.returns
returns c =
    let a = c.args in
    let w = a.work in
    let made = c.job_of-job.ensures.0 in (
      omega arith,
      omega (arith, c.if-work-d.false),
      λ h. omega arith,
      λ st t m k e.
          turns_more st t w.phase m a.d a.values.now _ e
          (c.turn.ensures st t
          (job-turn st w.plan w.control w.routes w.scene w.signals w.chunks w.plans a.d made k.0)
          (job-given t w.plan w.routes w.scene w.signals w.chunks w.plans a.d _ _ _ _ _ made k.1)),
    )
