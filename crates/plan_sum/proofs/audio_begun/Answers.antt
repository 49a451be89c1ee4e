-- `plan_sum::audio_begun` meets its contract.
use mathlib.Core.Path.{refl, sym}
use native.Mathlib.Omega.{arith}
use lib.ListN.{get_or-replicate}
use lib.Ieee.{nan}
use Rattle.model.specs.Counts.{at}
use Rattle.plan_sum.proofs.Found.{lanes-most}
use Rattle.plan_sum.proofs.Steps.{bare_of, audio-bare}
use Rattle.plan_sum.proofs.audio_begun.Goals as goal

pub returns-then-not-job : goal.returns-then-not-job
returns-then-not-job c = λ t f s x k e l b.
    let a = c.args in
    let fits = c.requires in
    audio-bare t f s x (at a.old l) l (sym (bare_of fits k.job c.if-not-job.true)) refl (get_or-replicate 64 l a.base nan (omega (arith, lanes-most a.job fits, b))) e
