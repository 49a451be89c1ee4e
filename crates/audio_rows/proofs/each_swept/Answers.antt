use mathlib.Core.Path.{ap}
use mathlib.Core.Bool.{not}
use mathlib.Core.Path.{refl, subst}
use Prim.Native.Nat.{ℕ, ◌+◌, ◌<◌}
use native.Mathlib.Omega.{arith}
use borrow.Author.Count.{below_more}
use lib.ListN.{length, get_or}
use Rattle.list.proofs.Elements.{get_or-inside, length-mapped}
use Rattle.state_filled.specs.Filled.{no_plan}
use Rattle.state.specs.declared.Plan.{Plan}
use Rattle.lane_input.proofs.Tests.{was-true}
use Rattle.plan_sweep.specs.Leads.{Swept}
use Rattle.plan_sweep.proofs.Kept.{never}
use borrow.Author.Rules.{rules}
use Rattle.audio_rows.proofs.each_swept.Goals as goal

pub loop-k-init : goal.loop-k-init
loop-k-init c = (search rules, search (rules, length-mapped), λ i h. absurd (omega arith))

pub returns-then-not-is_swept : goal.returns-then-not-is_swept
returns-then-not-is_swept c = λ h. never h

pub loop-k-preserved : goal.loop-k-preserved
loop-k-preserved c =
    let a = c.args in
    let l = c.loop-k in
    let near : a.control + l.k < length a.plans = omega (arith, l.invariant.1, c.requires.1) in (
      omega arith,
      l.invariant.1,
      below_more (λ (i : ℕ). Swept a.field (get_or a.plans (a.control + i) no_plan) a.steps.now) l.k l.invariant.2
          (subst (λ (y : Plan). Swept a.field y a.steps.now) (get_or-inside a.plans (a.control + l.k) _ no_plan near) (c.is_swept.ensures (was-true refl (ap not c.if-not-is_swept.false)))),
    )

pub returns : goal.returns
returns c = λ h k b. c.loop-k.invariant.2 k (omega arith)
