-- `plan_sum::tick_begun` meets its contract.
use mathlib.Core.Path.{refl, sym}
use native.Mathlib.Omega.{arith}
use lib.ListN.{get_or-replicate}
use lib.Ieee.{nan}
use Rattle.plan_sum.proofs.Found.{lanes-most}
use Rattle.plan_sum.proofs.Steps.{bare_of, begun-bare, begun-over}
use Rattle.plan_sum.proofs.tick_begun.Goals as goal

pub returns-then-not-job : goal.returns-then-not-job
returns-then-not-job c = λ t f s x k e l b.
    let a = c.args in
    let fits = c.requires in
    begun-bare t f s x l (sym (bare_of fits k.job c.if-not-job.true)) refl (get_or-replicate 64 l a.base nan (omega (arith, lanes-most a.job fits, b))) e

pub returns : goal.returns
returns c = λ t f s x k e l b.
    let a = c.args in
    begun-over t f s x l (c.audio_plains.ensures t f s x k e l b) (get_or-replicate 64 l a.base nan (omega (arith, lanes-most a.job c.requires, b))) e
