use mathlib.Core.Path.{◌≡◌, refl, ap, ◌∙◌}
use Prim.Native.Nat.{ℕ, ◌+◌}
use native.Mathlib.Omega.{arith}
use Rattle.model.specs.Counts.{at}
use Rattle.plan_sweep.specs.Sweep.{swept}
use Rattle.plan_sweep.proofs.Laws.{reach, swept_none, swept-more}
use borrow.Author.Rules.{rules}
use Rattle.plan_sweep.proofs.added.Goals as goal

pub loop-j-init : goal.loop-j-init
loop-j-init c =
    let a = c.args in
    (search rules, λ l h. swept_none a.starts.now a.steps.now a.gains.now a.samples.now a.pass a.frame (a.lane + l) _)

pub place-p-requires : goal.place-p-requires
place-p-requires c =
    let a = c.args in
    let j : ℕ = c.loop-j.j in
    omega (arith, reach a.starts.now a.steps.now a.gains.now a.samples.now a.pass a.frame a.lane (a.pass.first + j) c.requires.0 (omega arith) (omega arith) c.requires.1)

pub step-next-requires : goal.step-next-requires
step-next-requires c =
    let a = c.args in
    let j : ℕ = c.loop-j.j in
    omega (arith, c.place-p.ensures, reach a.starts.now a.steps.now a.gains.now a.samples.now a.pass a.frame a.lane (a.pass.first + j) c.requires.0 (omega arith) (omega arith) c.requires.1)

pub loop-j-preserved : goal.loop-j-preserved
loop-j-preserved c =
    let a = c.args in
    let i = c.loop-j in
    (omega arith, λ l h. swept-more a.starts.now a.steps.now a.gains.now a.samples.now a.pass a.frame (a.lane + l) i.j (c.place-p.result + l) _ _ _ _ (omega (arith, c.place-p.ensures)) refl (i.invariant.1 l h) (c.step-next.ensures l h))

pub returns : goal.returns
returns c =
    let a = c.args in
    let i = c.loop-j in
    let whole : i.j ≡ a.pass.count = omega arith in
    λ l h.
    i.invariant.1 l h ∙ ap (swept a.starts.now a.steps.now a.gains.now a.samples.now a.pass.first a.frame (a.lane + l) (at a.acc l)) whole
