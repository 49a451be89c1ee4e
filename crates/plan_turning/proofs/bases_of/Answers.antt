use lib.Ieee.{Float}
use mathlib.Core.Path.{ap, ◌∙◌}
use native.Mathlib.Omega.{arith}
use Prim.Native.Nat.{ℕ, ◌<◌}
use lib.ListN.{length, get_or, length-set}
use Rattle.list.proofs.Elements.{get_or-inside, length-mapped}
use Rattle.state_filled.specs.Filled.{no_plan}
use Rattle.state.specs.declared.Plan.{Plan}
use Rattle.plan_sum.specs.Job.{base_by}
use Rattle.plan_slews.proofs.Lanes.{row_more}
use borrow.Author.Rules.{rules}
use Rattle.plan_turning.proofs.bases_of.Goals as goal

pub loop-d-init : goal.loop-d-init
loop-d-init c = (search rules, search rules, search (rules, length-mapped), λ i h. absurd (omega arith))

pub loop-d-preserved : goal.loop-d-preserved
loop-d-preserved c =
    let i = c.loop-d in
    let a = c.args in
    let near : i.d < length a.plans = omega (arith, i.invariant.2) in
    let base : ℕ → Float = λ (k : ℕ). base_by a.levels a.globals.now a.bases.now (get_or a.plans k no_plan).dest (get_or a.plans k no_plan).base in (
      omega arith,
      simp length-set i.invariant.1,
      i.invariant.2,
      row_more base i.out i.d _ (omega (arith, i.invariant.1)) i.invariant.3
          (c.base_by.ensures
          ∙ ap (λ (y : Plan). base_by a.levels a.globals.now a.bases.now y.dest y.base) (get_or-inside a.plans i.d _ no_plan near)),
    )

pub returns : goal.returns
returns c =
    let i = c.loop-d in (i.invariant.1, λ d h. i.invariant.3 d (omega arith))
