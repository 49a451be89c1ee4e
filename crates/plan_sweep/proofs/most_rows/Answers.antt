use mathlib.Core.Path.{refl}
use Prim.Native.Nat.{◌+◌, ◌<◌}
use native.Mathlib.Omega.{arith}
use lib.ListN.{length}
use Rattle.plan_sweep.proofs.Fours.{part-needs, after_open, next_more}
use borrow.Author.Rules.{rules}
use Rattle.plan_sweep.proofs.most_rows.Goals as goal

pub loop-j-init : goal.loop-j-init
loop-j-init c = (omega (arith, c.requires.2), refl, λ e. refl, λ h. absurd (omega arith))

pub overflow_add-j : goal.overflow_add-j
overflow_add-j c =
    omega (arith, c.requires.0.routes, c.loop-j.invariant.0)

pub after-requires : goal.after-requires
after-requires c =
    omega (arith, c.requires.0.routes, c.loop-j-test.true)

pub four_rows-requires : goal.four_rows-requires
four_rows-requires c =
    let a = c.args in
    let i = c.loop-j in
    let left : i.j + 4 < a.pass.count = c.loop-j-test.true in
    let r = part-needs a.starts.now a.steps.now a.gains.now a.samples.now a.pass (a.frame + a.len) (a.pass.first + i.j) 4 (i.j + 4) a.len (length i.audio) _ c.after.ensures c.requires.0 (omega arith) (omega arith) (omega (arith, i.invariant.1, c.requires.1)) in
    (r.0, r.1, r.2, after_open a.pass i.j 4 _ c.after.ensures left)

pub overflow_add-j-in-loop-j : goal.overflow_add-j-in-loop-j
overflow_add-j-in-loop-j c =
    omega (arith, c.requires.0.routes, c.loop-j-test.true)

pub loop-j-smaller : goal.loop-j-smaller
loop-j-smaller c = omega (arith, c.loop-j-test.true)

pub loop-j-preserved : goal.loop-j-preserved
loop-j-preserved c =
    let a = c.args in
    let i = c.loop-j in
    let left : i.j + 4 < a.pass.count = c.loop-j-test.true in (
      left,
      search rules,
      λ e. absurd (omega arith),
      λ h.
          next_more a.starts.now a.steps.now a.gains.now a.samples.now a.pass 0 a.frame i.j c.requires.0.span 4 _ _ _ a.len _ (omega arith) (omega (arith, c.requires.1)) i.invariant.2 i.invariant.3 c.after.ensures c.four_rows.ensures,
    )

pub returns : goal.returns
returns c =
    let i = c.loop-j in
    (i.invariant.0, i.invariant.3 (omega (arith, c.requires.2, c.loop-j-test.false)))
