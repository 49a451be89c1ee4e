use mathlib.Core.Path.{refl}
use Prim.Native.Nat.{ℕ, ◌+◌, ◌<◌}
use native.Mathlib.Omega.{arith}
use lib.ListN.{length, length-set}
use Rattle.model.specs.Counts.{at}
use Rattle.plan_slews.proofs.Lanes.{row_more}
use borrow.Author.Rules.{rules}
use Rattle.plan_sweep.proofs.sixteen.Goals as goal

pub loop-l-init : goal.loop-l-init
loop-l-init c = (search rules, search rules, λ i h. absurd (omega arith))

pub loop-l-preserved : goal.loop-l-preserved
loop-l-preserved c = let a = c.args in
    let i = c.loop-l in
    let inside : i.l < length i.out = omega (arith, i.invariant.1, c.loop-l-test.true) in
    (omega arith, simp length-set i.invariant.1, row_more (λ (j : ℕ). at a.xs.now (a.p + j)) i.out i.l _ inside i.invariant.2 refl)

pub returns : goal.returns
returns c = λ l h. c.loop-l.invariant.2 l (omega arith)
