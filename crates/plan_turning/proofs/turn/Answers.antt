-- `plan_turning::turn` meets its contract.
use mathlib.Core.Path.{◌≡◌, ap, sym, subst, ◌∙◌}
use native.Mathlib.Omega.{arith}
use Rattle.plan_sweep.specs.declared.Pass.{Pass}
use Rattle.plan_turning.specs.Turns.{Sums, turned}
use Rattle.plan_turning.proofs.Turned.{within}
use Rattle.plan_turning.proofs.turn.Goals as goal

pub put_rows-requires : goal.put_rows-requires
put_rows-requires c =
    let a = c.args in
    let e = c.pass_of-pass.ensures in
    let wide : c.pass_of-pass.result.width ≡ a.round.field.stride = ap (λ (y : Pass). y.width) e in (
      within a.round a.samples.now a.starts.now a.steps.now a.gains.now a.offsets.now a.plan a.base e c.requires.0 c.requires.1,
      omega (arith, wide, c.requires.2),
      ap (λ (y : Pass). y.bound) e,
    )

pub returns : goal.returns
returns c =
    let a = c.args in
    let e = c.pass_of-pass.ensures in
    λ t x f s k all.
    c.put_rows.ensures t x f s k
    (subst (λ (y : Pass). Sums t x f s a.starts.now a.steps.now a.gains.now a.samples.now y a.base a.round.frame) (sym e) all)
    ∙ ap (λ (y : Pass). turned t a.round.tick.phase x f s a.from y.width a.values.now) e
